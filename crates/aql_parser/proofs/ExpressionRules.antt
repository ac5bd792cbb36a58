-- Expressions and items are read.
use Rattle.std.proofs.Common.{◌≡◌, ◌∙◌, ◌⊎◌, ⊎_elim, ℕ, zero, suc, ◌+◌, Bool, true, false, List, [], ◌∷◌, length, Some, refl, ap, sym, subst, arith, if◌then◌else◌}
use Rattle.aql_lexer.specs.Kinds.{Kind}
use Rattle.aql_lexer.specs.Kinds as k
use Rattle.aql_syntax.specs.Spellings.{free, is_reserved, SpellsName}
use Rattle.aql_syntax.specs.Parts.{◌▸◌, Symbol, IsName, Each, Separated}
use Rattle.aql_syntax.specs.Grammar.Expressions.{IsColumn, IsTerm, AreArgs, AreLaterArgs}
use Rattle.aql_syntax.specs.Places.{placed_name, placed_each, placed_separated, placed_term, placed_args, placed_later_args}
use Rattle.aql_syntax.specs.Trees.{Name, Term, int, str, regex, column, bare, call, star, Terms, no_terms, more_terms, as_terms}
use Rattle.aql_parser.specs.Nesting.{is_sign, IsWithin}
use Rattle.aql_parser.specs.Readers.{Reader, ◌◁◌, separated, sees_sign, sees_symbol, symbol, a_name, after}
use Rattle.aql_parser.specs.Reading.Expressions.{read_column, after_name, after_paren, refused, after_word, term_with, calls_within, read_term}
use Rattle.aql_parser.proofs.Rules.{Found, Reads, Always, within_after, within_open, within_close, bind, none_some, some_parts, chosen, carried, takes_sign, reads_token, reads_pair, reads_after, placed_pair, sees_symbol_is}
use Rattle.aql_parser.proofs.ListRules.{reads_separated}
use Rattle.aql_parser.proofs.NameRules.{reads_name, name_sound, found_token}

pub reads_column : (d : ℕ) → Reads read_column (λ pair. IsColumn free pair.0 pair.1) (placed_pair placed_name (λ n name. placed_name (n + 1) name)) d Always
reads_column d =
    reads_pair d (reads_name d) (reads_after d (reads_token d (takes_sign 46 refl refl)) (reads_name d)) (λ b ks rest stops h. tt)

-- neither a column nor a call goes on here
abbrev pub StopsTerm : List Kind → Type 0
StopsTerm ks = (sees_sign "." ks ≡ false) × (sees_sign "(" ks ≡ false)

-- after a name: the tokens of a column or of a bare name, which the name's token begins
after_name_sound : (name : Name) (kind : Kind) → SpellsName free name.text kind → (n : ℕ) (ks : List Kind) (t : Term) (m : ℕ) (rest : List Kind) → after_name name n ks ≡ Some (t, m, rest) → IsTerm free t (kind ∷ ks) rest
after_name_sound name kind spelled n ks t m rest h = ⊎_elim
    (λ c.
    let one = bind (a_name (n + 1) (after ks)) _ _ c.1 in
    let same = some_parts _ _ _ _ _ _ one.4 in
    carried (IsTerm free) (column name.at name one.0) t (kind ∷ ks) one.2 rest same.0 same.2
    (ks, (kind, refl, spelled), (after ks, sees_symbol_is 46 ks c.0, name_sound (n + 1) (after ks) one.0 one.1 one.2 one.3)))
    (λ c.
    let same = some_parts _ _ _ _ _ _ c.1 in
    carried (IsTerm free) (bare name.at name) t (kind ∷ ks) ks rest same.0 same.2 (kind, refl, spelled))
    (chosen (sees_sign "." ks) _ _ _ h)

-- a bare name, and a column
after_bare : (name : Name) (n : ℕ) (rest : List Kind) → StopsTerm rest → after_name name n rest ≡ Some (bare name.at name, n, rest)
after_bare name n rest stops = rw stops.0 refl

after_alias : (d : ℕ) (name other : Name) (n : ℕ) (ks rest : List Kind) → IsWithin d ks → (Symbol "." ▸ IsName free other) ks rest → Found (after_name name) (λ m t. (column name.at name (placed_name (m + 1) other).0, m + 1 + 1)) d n ks (bare n name) rest
after_alias d name other n ks rest within h =
    let there : IsWithin d (k.symbol 46 ∷ h.0) = rw h.1 at within in
    let one = (reads_name d).complete (n + 1) h.0 other rest tt (within_after d (k.symbol 46) h.0 refl refl there) h.2 in
    record {
      reads = rw h.1 (rw one.reads refl);
      within = one.within;
      shorter = rw h.1 (omega (arith, one.shorter));
    }

-- no expression begins with a symbol
name_no_symbol : (text : List ℕ) (kind : Kind) → SpellsName free text kind → (c : ℕ) (ks : List Kind) → sees_symbol c (kind ∷ ks) ≡ false
name_no_symbol text (k.word w) h c ks = refl
name_no_symbol text (k.name t) h c ks = refl
name_no_symbol text (k.int i) h c ks = refl
name_no_symbol text (k.str t) h c ks = refl
name_no_symbol text (k.regex t) h c ks = refl
name_no_symbol text (k.symbol b) h c ks = absurd h

pub term_no_symbol : (t : Term) (ks rest : List Kind) → IsTerm free t ks rest → (c : ℕ) → sees_symbol c ks ≡ false
term_no_symbol (int at v) ks rest h c = rw h refl
term_no_symbol (str at t) ks rest h c = rw h refl
term_no_symbol (regex at t) ks rest h c = rw h refl
term_no_symbol (bare at name) ks rest h c = rw h.1 (name_no_symbol name.text h.0 h.2 c rest)
term_no_symbol (column at alias name) ks rest h c = rw h.1.1 (name_no_symbol alias.text h.1.0 h.1.2 c h.0)
term_no_symbol (call at w args) ks rest h c = rw h.1 refl
term_no_symbol (star at w) ks rest h c = rw h.1 refl

-- arguments as a list
list_of : Terms → List Term
list_of no_terms = []
list_of (more_terms t ts) = t ∷ list_of ts

later_listed : (ts : Terms) (ks rest : List Kind) → AreLaterArgs free ts ks rest → Each (λ t. Symbol "," ▸ IsTerm free t) (list_of ts) ks rest
unfolding list_of
later_listed no_terms ks rest h = h
later_listed (more_terms t ts) ks rest h = (h.2.0, (h.0, h.1, h.2.1), later_listed ts h.2.0 rest h.2.2)

listed_later : (xs : List Term) (ks rest : List Kind) → Each (λ t. Symbol "," ▸ IsTerm free t) xs ks rest → AreLaterArgs free (as_terms xs) ks rest
listed_later [] ks rest h = h
listed_later (x ∷ xs) ks rest h = (h.1.0, h.1.1, (h.0, h.1.2, listed_later xs h.0 rest h.2))

listed_args : (xs : List Term) (ks rest : List Kind) → Separated (Symbol ",") (IsTerm free) xs ks rest → AreArgs free (as_terms xs) ks rest
listed_args [] ks rest h = absurd h
listed_args (x ∷ xs) ks rest h = (h.0, h.1, listed_later xs h.0 rest h.2)

as_list : (ts : Terms) → as_terms (list_of ts) ≡ ts
unfolding list_of
as_list no_terms = refl
as_list (more_terms t ts) = ap (more_terms t) (as_list ts)

placed_later-list : (n : ℕ) (xs : List Term) → placed_later_args n (as_terms xs) ≡ (as_terms (placed_each (λ m. placed_term (m + 1)) n xs).0, (placed_each (λ m. placed_term (m + 1)) n xs).1)
placed_later-list n [] = refl
placed_later-list n (x ∷ xs) = rw (placed_later-list (placed_term (n + 1) x).1 xs) refl

placed_args-list : (n : ℕ) (xs : List Term) → placed_args n (as_terms xs) ≡ (as_terms (placed_separated placed_term n xs).0, (placed_separated placed_term n xs).1)
placed_args-list n [] = refl
placed_args-list n (x ∷ xs) = rw (placed_later-list (placed_term n x).1 xs) refl

-- the rest of a call, after its "(", is read within d parentheses
record ReadsCalls (calls : ℕ → List ℕ → Reader Term) (d : ℕ) : Type 0 where
  sound : (at : ℕ) (w : List ℕ) (n : ℕ) (ks : List Kind) (t : Term) (m : ℕ) (rest : List Kind) → calls at w n ks ≡ Some (t, m, rest) → IsTerm free t (k.word w ∷ k.symbol 40 ∷ ks) rest
  call_complete : (at : ℕ) (w : List ℕ) (n : ℕ) (ks : List Kind) (args : Terms) (rest : List Kind) → IsWithin d (k.symbol 40 ∷ ks) → (AreArgs free args ▸ Symbol ")") ks rest → Found (calls at w) (λ m t. (call at w (placed_args m args).0, (placed_args m args).1 + 1)) d n ks (star at w) rest
  star_complete : (at : ℕ) (w : List ℕ) (n : ℕ) (ks rest : List Kind) → IsWithin d (k.symbol 40 ∷ ks) → (Symbol "*" ▸ Symbol ")") ks rest → Found (calls at w) (λ m t. (star at w, m + 1 + 1)) d n ks (star at w) rest

-- a word that no "(" follows: a name, unless it is reserved
plain_word : (b : Bool) (at : ℕ) (w : List ℕ) → is_reserved w ≡ b → (n : ℕ) (ks : List Kind) (t : Term) (m : ℕ) (rest : List Kind) → (if b then refused else after_name (record { text = w; at = at })) n ks ≡ Some (t, m, rest) → IsTerm free t (k.word w ∷ ks) rest
plain_word true at w is n ks t m rest h = absurd (none_some _ h)
plain_word false at w is n ks t m rest h = after_name_sound (record { text = w; at = at }) (k.word w) (refl, is) n ks t m rest h

module _ (calls : ℕ → List ℕ → Reader Term) (d : ℕ) (reads : ReadsCalls calls d) where
  after_word_sound : (at : ℕ) (w : List ℕ) (n : ℕ) (ks : List Kind) (t : Term) (m : ℕ) (rest : List Kind) → after_word calls at w n ks ≡ Some (t, m, rest) → IsTerm free t (k.word w ∷ ks) rest
  after_word_sound at w n ks t m rest h = ⊎_elim
      (λ c. rw (sees_symbol_is 40 ks c.0) (reads.sound at w (n + 1) (after ks) t m rest c.1))
      (λ c. plain_word (is_reserved w) at w refl n ks t m rest c.1)
      (chosen (sees_sign "(" ks) _ _ _ h)

  term_sound : (n : ℕ) (ks : List Kind) (t : Term) (m : ℕ) (rest : List Kind) → term_with calls n ks ≡ Some (t, m, rest) → IsTerm free t ks rest
  term_sound n [] t m rest h = absurd (none_some _ h)
  term_sound n (k.int v ∷ ks) t m rest h =
      let same = some_parts _ _ _ _ _ _ h in carried (IsTerm free) (int n v) t (k.int v ∷ ks) ks rest same.0 same.2 refl
  term_sound n (k.str x ∷ ks) t m rest h =
      let same = some_parts _ _ _ _ _ _ h in carried (IsTerm free) (str n x) t (k.str x ∷ ks) ks rest same.0 same.2 refl
  term_sound n (k.regex x ∷ ks) t m rest h =
      let same = some_parts _ _ _ _ _ _ h in carried (IsTerm free) (regex n x) t (k.regex x ∷ ks) ks rest same.0 same.2 refl
  term_sound n (k.word w ∷ ks) t m rest h = after_word_sound n w (n + 1) ks t m rest h
  term_sound n (k.name x ∷ ks) t m rest h = after_name_sound (record { text = x; at = n }) (k.name x) (refl, tt) (n + 1) ks t m rest h
  term_sound n (k.symbol c ∷ ks) t m rest h = absurd (none_some _ h)

  -- what a name's token begins: a bare name or a column
  bare_found : (n : ℕ) (name : Name) (kind : Kind) (rest : List Kind) → SpellsName free name.text kind → StopsTerm rest → term_with calls n (kind ∷ rest) ≡ Some (bare n (placed_name n name).0, n + 1, rest)
  bare_found n name (k.word w) rest h stops = rw (stops.1, h.1, h.0) (after_bare (placed_name n name).0 (n + 1) rest stops)
  bare_found n name (k.name x) rest h stops = rw h.0 (after_bare (placed_name n name).0 (n + 1) rest stops)
  bare_found n name (k.int v) rest h stops = absurd h
  bare_found n name (k.str x) rest h stops = absurd h
  bare_found n name (k.regex x) rest h stops = absurd h
  bare_found n name (k.symbol c) rest h stops = absurd h

  column_found : (n : ℕ) (alias name : Name) (kind : Kind) (ks rest : List Kind) → SpellsName free alias.text kind → (Symbol "." ▸ IsName free name) ks rest → IsWithin d ks → term_with calls n (kind ∷ ks) ≡ Some (column n (placed_name n alias).0 (placed_name (n + 1 + 1) name).0, n + 1 + 1 + 1, rest)
  column_found n alias name (k.word w) ks rest h dot within =
      let one = after_alias d (placed_name n alias).0 name (n + 1) ks rest within dot in
      let no_call : sees_sign "(" ks ≡ false = rw dot.1 refl in
      rw (no_call, h.1, h.0) one.reads
  column_found n alias name (k.name x) ks rest h dot within =
      let one = after_alias d (placed_name n alias).0 name (n + 1) ks rest within dot in
      rw h.0 one.reads
  column_found n alias name (k.int v) ks rest h dot within = absurd h
  column_found n alias name (k.str x) ks rest h dot within = absurd h
  column_found n alias name (k.regex x) ks rest h dot within = absurd h
  column_found n alias name (k.symbol c) ks rest h dot within = absurd h

  not_open : (text : List ℕ) (kind : Kind) → SpellsName free text kind → (is_sign "(" kind ≡ false) × (is_sign ")" kind ≡ false)
  not_open text (k.word w) h = (refl, refl)
  not_open text (k.name x) h = (refl, refl)
  not_open text (k.int v) h = absurd h
  not_open text (k.str x) h = absurd h
  not_open text (k.regex x) h = absurd h
  not_open text (k.symbol c) h = absurd h

  term_complete : (n : ℕ) (ks : List Kind) (t : Term) (rest : List Kind) → StopsTerm rest → IsWithin d ks → IsTerm free t ks rest → Found (term_with calls) placed_term d n ks t rest
  term_complete n ks (int at v) rest stops within h =
      rw h (found_token d n (k.int v) (int at v) rest (rw h at within) refl refl refl)
  term_complete n ks (str at x) rest stops within h =
      rw h (found_token d n (k.str x) (str at x) rest (rw h at within) refl refl refl)
  term_complete n ks (regex at x) rest stops within h =
      rw h (found_token d n (k.regex x) (regex at x) rest (rw h at within) refl refl refl)
  term_complete n ks (bare at name) rest stops within h =
      let parens = not_open name.text h.0 h.2 in
      rw h.1 (found_token d n h.0 (bare at name) rest (rw h.1 at within) parens.0 parens.1 (bare_found n name h.0 rest h.2 stops))
  term_complete n ks (column at alias name) rest stops within h =
      let parens = not_open alias.text h.1.0 h.1.2 in
      let there : IsWithin d (h.1.0 ∷ h.0) = rw h.1.1 at within in
      let left = within_after d h.1.0 h.0 parens.0 parens.1 there in
      let one = after_alias d alias name (n + 1) h.0 rest left h.2 in
      rw h.1.1 (record {
        reads = column_found n alias name h.1.0 h.0 rest h.1.2 h.2 left;
        within = one.within;
        shorter = omega (arith, one.shorter);
      })
  term_complete n ks (call at w args) rest stops within h =
      let word_gone : IsWithin d (k.word w ∷ k.symbol 40 ∷ h.2.0) = rw (h.1, h.2.1) at within in
      let one = reads.call_complete n w (n + 1 + 1) h.2.0 args rest (within_after d (k.word w) (k.symbol 40 ∷ h.2.0) refl refl word_gone) h.2.2 in
      rw (h.1, h.2.1) (record { reads = one.reads; within = one.within; shorter = omega (arith, one.shorter) })
  term_complete n ks (star at w) rest stops within h =
      let word_gone : IsWithin d (k.word w ∷ k.symbol 40 ∷ h.2.0) = rw (h.1, h.2.1) at within in
      let one = reads.star_complete n w (n + 1 + 1) h.2.0 rest (within_after d (k.word w) (k.symbol 40 ∷ h.2.0) refl refl word_gone) h.2.2 in
      rw (h.1, h.2.1) (record { reads = one.reads; within = one.within; shorter = omega (arith, one.shorter) })

  reads_term_with : Reads (term_with calls) (IsTerm free) placed_term d StopsTerm
  reads_term_with = record { sound = term_sound; complete = term_complete }

-- without a parenthesis no call is read
no_calls : ReadsCalls (calls_within 0) 0
no_calls = record {
  sound = λ at w n ks t m rest h. absurd (none_some _ h);
  call_complete = λ at w n ks args rest within h. no_room ks within;
  star_complete = λ at w n ks rest within h. no_room ks within;
}
  where
    no_room : {P : Type 0} (ks : List Kind) → IsWithin 0 (k.symbol 40 ∷ ks) → P
    no_room ks within = let one = within_open 0 ks within in absurd (omega (arith, one.1))

-- a ")" is taken where it stands
pub close_sound : (n : ℕ) (ks : List Kind) (u : Unit {0}) (m : ℕ) (rest : List Kind) → symbol ")" n ks ≡ Some (u, m, rest) → ks ≡ k.symbol 41 ∷ rest
close_sound n ks u m rest h = ⊎_elim
    (λ c. subst (λ (r : List Kind). ks ≡ k.symbol 41 ∷ r) (some_parts _ _ _ _ _ _ c.1).2 (sees_symbol_is 41 ks c.0))
    (λ c. absurd (none_some _ c.1))
    (chosen (sees_sign ")" ks) _ _ _ h)

-- what stands in parentheses leaves as much room as there was
pub within_parens : (e : ℕ) (ks : List Kind) → IsWithin (suc e) (k.symbol 40 ∷ ks) → IsWithin e ks
within_parens e ks h = let one = within_open (suc e) ks h in subst (λ (d : ℕ). IsWithin d ks) (omega (arith, one.1)) one.2

-- arguments are placed as a list is
placed_args_as : (n : ℕ) (ts : Terms) → placed_args n ts ≡ (as_terms (placed_separated placed_term n (list_of ts)).0, (placed_separated placed_term n (list_of ts)).1)
placed_args_as n ts = ap (placed_args n) (sym (as_list ts)) ∙ placed_args-list n (list_of ts)

placed_args_list_of : (n : ℕ) (arg : Term) (args : Terms) → placed_args n (more_terms arg args) ≡ (as_terms (placed_separated placed_term n (arg ∷ list_of args)).0, (placed_separated placed_term n (arg ∷ list_of args)).1)
unfolding list_of
placed_args_list_of n arg args = placed_args_as n (more_terms arg args)

module _ (e : ℕ) (inner : Reads (read_term e) (IsTerm free) placed_term e StopsTerm) where
  arguments_stop : (ks : List Kind) → sees_sign "," ks ≡ true → StopsTerm ks
  arguments_stop ks h = rw (sees_symbol_is 44 ks h) (refl, refl)

  pub reads_arguments : Reads (separated (sees_sign ",") (read_term e)) (Separated (Symbol ",") (IsTerm free)) (placed_separated placed_term) e (λ ks. StopsTerm ks × (sees_sign "," ks ≡ false))
  reads_arguments = reads_separated (sees_sign ",") e (takes_sign 44 refl refl) inner arguments_stop

  paren_sound : (at : ℕ) (w : List ℕ) (n : ℕ) (ks : List Kind) (t : Term) (m : ℕ) (rest : List Kind) → after_paren (read_term e) at w n ks ≡ Some (t, m, rest) → IsTerm free t (k.word w ∷ k.symbol 40 ∷ ks) rest
  paren_sound at w n ks t m rest h = ⊎_elim
      (λ c.
      let same = some_parts _ _ _ _ _ _ c.1 in
      carried (IsTerm free) (call at w no_terms) t (k.word w ∷ k.symbol 40 ∷ ks) (after ks) rest same.0 same.2
      (k.symbol 40 ∷ ks, refl, (ks, refl, (ks, refl, sees_symbol_is 41 ks c.0))))
      (λ c. ⊎_elim
      (λ c2.
      let one = bind (symbol ")" (n + 1) (after ks)) _ _ c2.1 in
      let same = some_parts _ _ _ _ _ _ one.4 in
      carried (IsTerm free) (star at w) t (k.word w ∷ k.symbol 40 ∷ ks) one.2 rest same.0 same.2
      (k.symbol 40 ∷ ks, refl, (ks, refl, (after ks, sees_symbol_is 42 ks c2.0, close_sound (n + 1) (after ks) one.0 one.1 one.2 one.3))))
      (λ c2.
      let one = bind ((separated (sees_sign ",") (read_term e) ◁ symbol ")") n ks) _ _ c2.1 in
      let same = some_parts _ _ _ _ _ _ one.4 in
      let two = bind (separated (sees_sign ",") (read_term e) n ks) _ _ one.3 in
      let three = bind (symbol ")" two.1 two.2) _ _ two.4 in
      let same2 = some_parts _ _ _ _ _ _ three.4 in
      let args : Separated (Symbol ",") (IsTerm free) one.0 ks two.2 =
      subst (λ (xs : List Term). Separated (Symbol ",") (IsTerm free) xs ks two.2) same2.0 (reads_arguments.sound n ks two.0 two.1 two.2 two.3) in
      let closed : two.2 ≡ k.symbol 41 ∷ one.2 =
      subst (λ (r : List Kind). two.2 ≡ k.symbol 41 ∷ r) same2.2 (close_sound two.1 two.2 three.0 three.1 three.2 three.3) in
      carried (IsTerm free) (call at w (as_terms one.0)) t (k.word w ∷ k.symbol 40 ∷ ks) one.2 rest same.0 same.2
      (k.symbol 40 ∷ ks, refl, (ks, refl, (two.2, listed_args one.0 ks two.2 args, closed))))
      (chosen (sees_sign "*" ks) _ _ _ c.1))
      (chosen (sees_sign ")" ks) _ _ _ h)

  call_found : (at : ℕ) (w : List ℕ) (n : ℕ) (ks : List Kind) (args : Terms) (rest : List Kind) → IsWithin (suc e) (k.symbol 40 ∷ ks) → (AreArgs free args ▸ Symbol ")") ks rest → Found (after_paren (read_term e) at w) (λ m t. (call at w (placed_args m args).0, (placed_args m args).1 + 1)) (suc e) n ks (star at w) rest
  call_found at w n ks no_terms rest within h =
      let closed : ks ≡ k.symbol 41 ∷ rest = h.1 ∙ h.2 in
      record {
        reads = rw closed refl;
        within = within_close e rest (rw closed at (within_parens e ks within));
        shorter = rw closed (omega arith);
      }
  call_found at w n ks (more_terms arg args) rest within h =
      let list : Separated (Symbol ",") (IsTerm free) (arg ∷ list_of args) ks h.0 = (h.1.0, h.1.1, later_listed args h.1.0 h.0 h.1.2) in
      let ends : (StopsTerm h.0) × (sees_sign "," h.0 ≡ false) = rw h.2 ((refl, refl), refl) in
      let one = reads_arguments.complete n ks (arg ∷ list_of args) h.0 ends (within_parens e ks within) list in
      let no_close = term_no_symbol arg ks h.1.0 h.1.1 41 in
      let no_star = term_no_symbol arg ks h.1.0 h.1.1 42 in
      let shorter : length h.0 ≡ suc (length rest) = ap length h.2 in
      record {
        reads = rw (no_close, no_star, one.reads, h.2) (ap (λ placed. Some (call at w placed.0, placed.1 + 1, rest)) (sym (placed_args_list_of n arg args)));
        within = within_close e rest (rw h.2 at one.within);
        shorter = omega (arith, one.shorter, shorter);
      }

  star_found : (at : ℕ) (w : List ℕ) (n : ℕ) (ks rest : List Kind) → IsWithin (suc e) (k.symbol 40 ∷ ks) → (Symbol "*" ▸ Symbol ")") ks rest → Found (after_paren (read_term e) at w) (λ m t. (star at w, m + 1 + 1)) (suc e) n ks (star at w) rest
  star_found at w n ks rest within h =
      let inside : IsWithin e (k.symbol 42 ∷ k.symbol 41 ∷ rest) = rw (h.1, h.2) at (within_parens e ks within) in
      record {
        reads = rw (h.1, h.2) refl;
        within = within_close e rest (within_after e (k.symbol 42) (k.symbol 41 ∷ rest) refl refl inside);
        shorter = rw (h.1, h.2) (omega arith);
      }

  more_calls : ReadsCalls (after_paren (read_term e)) (suc e)
  more_calls = record { sound = paren_sound; call_complete = call_found; star_complete = star_found }

-- an expression is read within any number of parentheses
pub reads_term : (d : ℕ) → Reads (read_term d) (IsTerm free) placed_term d StopsTerm
unfolding read_term
reads_term zero = reads_term_with (calls_within 0) 0 no_calls
reads_term (suc e) = reads_term_with (after_paren (read_term e)) (suc e) (more_calls e (reads_term e))
