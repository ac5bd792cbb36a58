-- The walk over the tokens: the texts of runs, and where the tree leads.
use Rattle.std.proofs.Common.{◌≡◌, ℕ, zero, suc, ◌+◌, ◌-◌, ◌<◌, ◌≤◌, List, [], ◌∷◌, ◌++◌, map, length, take, drop, get_or, slice_get, slice_range, Option, Some, None, option_and_then, Bool, true, false, not, nat_eq, refl, sym, ap, ◌∙◌, arith}
use Rattle.std.specs.Cmp.Lexicographic.{pointwise, same_text, other_text}
use Rattle.std.specs.HashMap.{get_by_text}
use Rattle.std.proofs.lemmas.List.{length-map, length-take, length-drop, take_more, take-map, take_all, get_or-map, get_or-drop, get_or-take, map-append, length-append}
use Rattle.span_token.specs.Documents.{text_in}
use Rattle.span_token.specs.Extents.{Extent, nth_extent}
use Rattle.dict_match.specs.declared.dict_use.DictUse.{DictUse}
use Rattle.dict_match.specs.declared.ahead.Ahead.{Ahead}
use Rattle.dict_match.specs.declared.trie.Trie.{Trie}
use Rattle.dict_match.specs.Dictionaries.{folded, entry_texts, texts_of, AgreesWith}
use Rattle.span_token.specs.SourceTokens.{SomeTokens}
use Rattle.dict_match.specs.Tries.{end_of, put_dicts, step, edge_from, Reaches}
use Rattle.dict_match.specs.Walks.{numbers_of, run_texts, AreAhead, IsKnownOrNext}
use Rattle.dict_match.proofs.PutLemmas.{agreed-put}

abbrev Text : Type 0
Text = List ℕ

-- the folding of token number `i`
abbrev pub key : SomeTokens → ℕ → Text
key tokens i = folded (text_in tokens.doc (nth_extent tokens.tokens i))

-- the foldings of a run
abbrev pub keys : SomeTokens → ℕ → ℕ → List Text
keys tokens first past = map folded (run_texts tokens first past)

-- ---- the texts of a run

pub length-run : (tokens : SomeTokens) (first past : ℕ) → first ≤ past → past ≤ length tokens.tokens → length (run_texts tokens first past) ≡ past - first
length-run tokens first past le within =
    omega (arith, length-map (take (past - first) (drop first tokens.tokens)) (text_in tokens.doc), length-take (past - first) (drop first tokens.tokens), length-drop first tokens.tokens)

range-more : (tokens : List Extent) (first last : ℕ) → first ≤ last → last < length tokens → slice_range tokens first (last + 1) ≡ slice_range tokens first last ++ nth_extent tokens last ∷ []
range-more tokens first last le lt =
    let count : last + 1 - first ≡ last - first + 1 = omega arith in
    let same_number : first + (last - first) ≡ last = omega arith in
    ap (λ (n : ℕ). take n (drop first tokens)) count
    ∙ take_more (drop first tokens) (last - first) (record { begin = 0; end = 0 }) (omega (arith, length-drop first tokens))
    ∙ ap (λ (e : Extent). slice_range tokens first last ++ e ∷ []) (get_or-drop first tokens (last - first) _ ∙ ap (nth_extent tokens) same_number)

pub texts-more : (tokens : SomeTokens) (first last : ℕ) → first ≤ last → last < length tokens.tokens →
    run_texts tokens first (last + 1) ≡ run_texts tokens first last ++ text_in tokens.doc (nth_extent tokens.tokens last) ∷ []
texts-more tokens first last le lt =
    ap (texts_of tokens.doc) (range-more tokens.tokens first last le lt) ∙ map-append (text_in tokens.doc) (slice_range tokens.tokens first last) (nth_extent tokens.tokens last ∷ [])

pub keys-more : (tokens : SomeTokens) (first last : ℕ) → first ≤ last → last < length tokens.tokens → keys tokens first (last + 1) ≡ keys tokens first last ++ key tokens last ∷ []
keys-more tokens first last le lt =
    ap (map folded) (texts-more tokens first last le lt) ∙ map-append folded (run_texts tokens first last) (text_in tokens.doc (nth_extent tokens.tokens last) ∷ [])

take-shorter : {X : Type 0} (xs : List X) (k n : ℕ) → k ≤ n → take k (take n xs) ≡ take k xs
take-shorter [] zero n le = refl
take-shorter [] (suc k) zero le = refl
take-shorter [] (suc k) (suc n) le = refl
take-shorter (x ∷ xs) zero n le = refl
take-shorter (x ∷ xs) (suc k) zero le = absurd (omega arith)
take-shorter (x ∷ xs) (suc k) (suc n) le = ap (◌∷◌ x) (take-shorter xs k n (omega arith))

pub keys-take : (tokens : SomeTokens) (first last past : ℕ) → first ≤ last → last < past → take (last + 1 - first) (keys tokens first past) ≡ keys tokens first (last + 1)
keys-take tokens first last past le lt =
    take-map folded (last + 1 - first) (run_texts tokens first past)
    ∙ ap (map folded) (take-map (text_in tokens.doc) (last + 1 - first) (slice_range tokens.tokens first past)
    ∙ ap (texts_of tokens.doc) (take-shorter (drop first tokens.tokens) (last + 1 - first) (past - first) (omega arith)))

-- ---- the tree

-- where no step leads on, no entry begins so
pub none-longer : (trie : Trie) (dicts : List DictUse) (node : ℕ) (tokens : SomeTokens) (first last past i : ℕ) (dict : DictUse) →
    Reaches trie (put_dicts 0 dicts) node (keys tokens first last) → step trie node (key tokens last) ≡ None → slice_get dicts i ≡ Some dict →
    first ≤ last → last < past → past ≤ length tokens.tokens → AgreesWith dict (run_texts tokens first past) → ⊥
none-longer trie dicts node tokens first last past i dict r none at le lt within agrees =
    let some : 0 < length (run_texts tokens first past) = omega (arith, length-run tokens first past (omega (arith, le, lt)) within, le, lt) in
    let put = agreed-put dicts i dict (run_texts tokens first past) at some agrees in
    let there = r.ends.kept (keys tokens first past) (end_of i dict.exact (entry_texts agrees.entry)) put in
    let begun = r.tree.closed there.0 (last + 1 - first) (keys tokens first past) there.1 in
    let path : take (last + 1 - first) (keys tokens first past) ≡ keys tokens first last ++ key tokens last ∷ [] =
    keys-take tokens first last past le lt ∙ keys-more tokens first last le (omega (arith, lt, within)) in
    let leads : step trie node (key tokens last) ≡ Some begun.0 =
    (r.tree.leads node (key tokens last) begun.0).1 (record { path = keys tokens first last; «from» = r.at; to = begun.1 ∙ ap Some path }) in
    cc

-- ---- steps of loops

-- the text of a run's token
pub run_texts-nth : (tokens : SomeTokens) (first past i : ℕ) → i < past - first → past ≤ length tokens.tokens → get_or (run_texts tokens first past) i [] ≡ text_in tokens.doc (nth_extent tokens.tokens (first + i))
run_texts-nth tokens first past i lt within =
    get_or-map (text_in tokens.doc) (slice_range tokens.tokens first past) i (record { begin = 0; end = 0 }) []
    (omega (arith, lt, within, length-take (past - first) (drop first tokens.tokens), length-drop first tokens.tokens))
    ∙ ap (text_in tokens.doc) (get_or-take (past - first) (drop first tokens.tokens) i _ lt ∙ get_or-drop first tokens.tokens i _)

-- a run of no token
pub keys-none : (tokens : SomeTokens) (first : ℕ) → keys tokens first first ≡ []
keys-none tokens first =
    let none : first - first ≡ 0 = omega arith in
    ap (λ (n : ℕ). map folded (texts_of tokens.doc (take n (drop first tokens.tokens)))) none

-- ---- the numbers of tokens

pub number-of : (trie : Trie) (tokens : SomeTokens) (i : ℕ) (d : Option ℕ) → i < length tokens.tokens → get_or (numbers_of trie tokens) i d ≡ get_by_text trie.words (key tokens i)
number-of trie tokens i d lt = get_or-map (λ (t : Extent). get_by_text trie.words (folded (text_in tokens.doc t))) tokens.tokens i (record { begin = 0; end = 0 }) d lt

-- where a number leads
pub step-of : (trie : Trie) (node : ℕ) (text : Text) (word next : Option ℕ) → word ≡ get_by_text trie.words text → next ≡ option_and_then (edge_from trie node) word → step trie node text ≡ next
unfolding step
step-of trie node text word next is leads = sym (leads ∙ ap (option_and_then (edge_from trie node)) is)

-- of those that a walk has looked at
pub known-number : (trie : Trie) (tokens : SomeTokens) (ahead : Ahead) (i : ℕ) (d : Option ℕ) → AreAhead trie tokens ahead → ahead.begin ≤ i → i - ahead.begin < length ahead.numbers.items → i < length tokens.tokens →
    get_or ahead.numbers.items (i - ahead.begin) d ≡ get_by_text trie.words (key tokens i)
known-number trie tokens ahead i d are le known lt =
    let words = ahead.numbers.items in
    let all = numbers_of trie tokens in
    let same_number : ahead.begin + (i - ahead.begin) ≡ i = omega (arith, le) in
    ap (λ (ws : List (Option ℕ)). get_or ws (i - ahead.begin) d) are
    ∙ get_or-take (length words) (drop ahead.begin all) (i - ahead.begin) d known
    ∙ get_or-drop ahead.begin all (i - ahead.begin) d
    ∙ ap (λ (n : ℕ). get_or all n d) same_number
    ∙ number-of trie tokens i d lt

pub more-numbers : (trie : Trie) (tokens : SomeTokens) (ahead : Ahead) (new : List (Option ℕ)) (i : ℕ) (word : Option ℕ) → AreAhead trie tokens ahead → i ≡ ahead.begin + length ahead.numbers.items →
    i < length tokens.tokens → word ≡ get_by_text trie.words (key tokens i) → new ≡ ahead.numbers.items ++ word ∷ [] → new ≡ take (length new) (drop ahead.begin (numbers_of trie tokens))
more-numbers trie tokens ahead new i word are next lt is pushed =
    let words = ahead.numbers.items in
    let all = numbers_of trie tokens in
    let rest = drop ahead.begin all in
    let long : length new ≡ length words + 1 = omega (arith, ap length pushed, length-append words (word ∷ [])) in
    let whole : length all ≡ length tokens.tokens = length-map tokens.tokens (λ (t : Extent). get_by_text trie.words (folded (text_in tokens.doc t))) in
    let read : get_or rest (length words) None ≡ word =
    get_or-drop ahead.begin all (length words) None ∙ ap (λ (n : ℕ). get_or all n None) (sym next) ∙ number-of trie tokens i None lt ∙ sym is in
    pushed
    ∙ ap (λ (ws : List (Option ℕ)). ws ++ word ∷ []) are
    ∙ ap (λ (o : Option ℕ). take (length words) rest ++ o ∷ []) (sym read)
    ∙ sym (take_more rest (length words) None (omega (arith, length-drop ahead.begin all, whole, next, lt)))
    ∙ ap (λ (n : ℕ). take n rest) (sym long)

pub no-numbers : (trie : Trie) (tokens : SomeTokens) (ahead : Ahead) → ahead.numbers.items ≡ [] → AreAhead trie tokens ahead
no-numbers trie tokens ahead none = none ∙ sym (ap (λ (ws : List (Option ℕ)). take (length ws) (drop ahead.begin (numbers_of trie tokens))) none)

-- before the first token
pub next-none : (ahead : Ahead) → ahead.begin ≡ 0 → IsKnownOrNext 0 ahead
next-none ahead is = record { «from» = omega (arith, is); to = omega (arith, is) }

-- all tokens as a run
pub run-all : (tokens : SomeTokens) → run_texts tokens 0 (length tokens.tokens) ≡ texts_of tokens.doc tokens.tokens
run-all tokens =
    let all : length tokens.tokens - 0 ≡ length tokens.tokens = omega arith in
    ap (λ (n : ℕ). texts_of tokens.doc (take n tokens.tokens)) all ∙ ap (texts_of tokens.doc) (take_all (length tokens.tokens) tokens.tokens (omega arith))

-- what `!=` of two texts tells
told : (xs ys : Text) (p b : Bool) → p ≡ pointwise nat_eq xs ys → b ≡ not p → (b ≡ false → xs ≡ ys) × (b ≡ true → xs ≡ ys → ⊥)
told xs ys true b e is = (λ _. same_text xs ys e, λ h s. cc)
told xs ys false b e is = (λ h. cc, λ _ s. other_text xs ys e s)

pub told-ne : (xs ys : Text) (b : Bool) → b ≡ not (pointwise nat_eq xs ys) → (b ≡ false → xs ≡ ys) × (b ≡ true → xs ≡ ys → ⊥)
told-ne xs ys b is = told xs ys (pointwise nat_eq xs ys) b refl is
