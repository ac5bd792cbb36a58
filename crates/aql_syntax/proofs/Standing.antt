-- A word and a name are tokens of a text where the tests of their texts say so.
use Rattle.std.proofs.Common.{◌≡◌, ℕ, Bool, true, false, ◌&&◌, List, [], ◌∷◌, ◌++◌, refl, codes}
use Rattle.std.specs.List.{list_all}
use Rattle.std.proofs.lemmas.Bool.{false≢true}
use Rattle.std.proofs.lemmas.List.Sums.{AllPass-from_list_all, list_all-from_AllPass}
use Rattle.aql_lexer.specs.Kinds as k
use Rattle.aql_lexer.specs.Tokens.{begins_word, goes_on_word, is_in_name}
use Rattle.aql_syntax.specs.Spellings.{is_word, can_be_name}
use Rattle.aql_syntax.specs.Printing.{CanStand}

both : (x y : Bool) → (x && y) ≡ true → (x ≡ true) × (y ≡ true)
both true y h = (refl, h)
both false y h = absurd (false≢true h)

pub word_stands : (w : List ℕ) → is_word w ≡ true → CanStand (k.word w)
unfolding is_word
word_stands [] h = absurd (false≢true h)
word_stands (c ∷ cs) h =
    let parts = both (begins_word c) (list_all goes_on_word cs) h in
    (c ∷ cs, [], (refl, (parts.0, record { passing = AllPass-from_list_all goes_on_word cs parts.1; longest = tt })))

pub stands_word : (w : List ℕ) → CanStand (k.word w) → is_word w ≡ true
unfolding is_word
stands_word [] h = absurd h.2.1
stands_word (c ∷ cs) h = rw (h.2.1.0, list_all-from_AllPass goes_on_word cs h.2.1.1.passing) refl

pub name_stands : (text : List ℕ) → can_be_name text ≡ true → CanStand (k.name text)
unfolding can_be_name
name_stands [] h = absurd (false≢true h)
name_stands (c ∷ cs) h =
    (codes "\"" ++ ((c ∷ cs) ++ codes "\""), [], record { quoted = refl; some = λ e. some c cs e; plain = AllPass-from_list_all is_in_name (c ∷ cs) h })
  where
    some : (c : ℕ) (cs : List ℕ) → c ∷ cs ≡ [] → ⊥
    some c cs e = cc

pub stands_name : (text : List ℕ) → CanStand (k.name text) → can_be_name text ≡ true
unfolding can_be_name
stands_name [] h = absurd (h.2.some refl)
stands_name (c ∷ cs) h = list_all-from_AllPass is_in_name (c ∷ cs) h.2.plain
