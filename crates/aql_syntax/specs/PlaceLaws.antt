-- The places of a tree with tokens are right: the token with the number of what has a place spells it, and
-- the number after a part is that of its first token and the number of its tokens.
use Rattle.std.proofs.Common.{◌≡◌, ◌∙◌, ⊎_elim, ℕ, zero, suc, ◌+◌, Bool, true, false, if◌then◌else◌, List, [], ◌∷◌, ◌++◌, length, drop, Option, Some, None, All, IfSome, slice_get, refl, ap, sym, subst, arith, add-one}
use Prim.Native.String.{String}
use Rattle.std.specs.List.{AllZip}
use Rattle.std.proofs.lemmas.List.{append-nil, length-append, drop-drop}
use Rattle.std.proofs.lemmas.List.Elements.{All-nil, All-cons}
use Rattle.std.proofs.Math.Seq.{drop-append_seam}
use Rattle.aql_lexer.specs.Kinds.{Kind}
use Rattle.aql_lexer.specs.Kinds as k
use Rattle.aql_syntax.specs.Spellings.{free}
use Rattle.aql_syntax.specs.Parts.{Part, ◌▸◌, Symbol, InParens, Keyword, IsName, IsDictionaryName, IsInt, Optional, Each, Separated, Clause}
use Rattle.aql_syntax.specs.Trees.{Name, Number, Term, int, str, regex, column, bare, call, star, Terms, no_terms, more_terms, Item, Cons, Clauses, Tail, Range, one, two, Group, Flag, Spec, pattern, dict, blocks, Query, select, extract, union, minus, Queries, no_queries, more_queries, Source, view, nested, Sources, no_sources, more_sources, Statement, module_, require, export, dictionary, create, output}
use Rattle.aql_syntax.specs.Places.{Placing, placed_name, placed_number, placed_optional, placed_each, placed_separated, placed_clause, placed_term, placed_args, placed_later_args, placed_output, placed_item, placed_range, placed_numbered, placed_only_group, placed_groups, placed_bound, after_flag, placed_spec, placed_cons, placed_limit, placed_clauses, placed_tail, placed_item_before, placed_query, placed_sides, placed_later_sides, placed_source, placed_sources, placed_later_sources, placed_statement}
use Rattle.aql_syntax.specs.PlacedTokens.{IsSpelledName, IsSpelledDictionary, IsSpelledPolicy, IsSpelledNumber, IsSpelledTerm, AreSpelledArgs, IsSpelledItem, IsSpelledRange, IsSpelledGroup, IsSpelledSpec, IsSpelledCons, AreSpelledClauses, IsSpelledTail, IsSpelledQuery, AreSpelledSides, IsSpelledSource, AreSpelledSources, IsSpelled}
use Rattle.aql_syntax.specs.Grammar.Expressions.{IsColumn, IsTerm, AreArgs, AreLaterArgs, IsNamed, IsItem}
use Rattle.aql_syntax.specs.Grammar.Extractions.{IsCountWord, IsRange, IsBound, IsOutput, IsNumbered, IsOnlyGroup, AreGroups, IsPattern, IsFlag, IsDict, IsBlocks}
use Rattle.aql_syntax.specs.Grammar.Queries.{AreConds, IsPolicy, IsCons, IsLimit, AreKeys, AreClauses, IsTail, AreItemsBefore, IsExtracted, IsQuery, AreSides, AreOtherSides, AreLaterSides, IsSource, AreSources, AreLaterSources}
use Rattle.aql_syntax.specs.Grammar.Statements.{IsText, IsStatement}
use Rattle.aql_syntax.specs.Programs.{is_end, begun_with, runs_of, HasTokens, AreTokensOf, placed_from, placed_in}

-- from the token with the number n on stand `part`, and then `later`; n and the tokens of `part` make `end`
pub record StandsFrom (tokens later : List Kind) (end n : ℕ) (part : List Kind) : Type 0 where
  pub tokens_are : drop n tokens ≡ part ++ later
  pub count : n + length part ≡ end

nil_cons : (x : Kind) (xs : List Kind) → ◌≡◌ {A = List Kind} [] (x ∷ xs) → ⊥
nil_cons x xs e = cc

-- the token with the number n, and those after it
token_next : (n : ℕ) (xs : List Kind) (x : Kind) (ys : List Kind) → drop n xs ≡ x ∷ ys → (slice_get xs n ≡ Some x) × (drop (n + 1) xs ≡ ys)
token_next zero [] x ys h = absurd (nil_cons x ys h)
token_next zero (y ∷ xs) x ys h =
    let first : y ≡ x = cc in
    let others : xs ≡ ys = cc in
    (ap (λ (z : Kind). Some z) first, others)
token_next (suc n) [] x ys h = absurd (nil_cons x ys h)
token_next (suc n) (y ∷ xs) x ys h =
    let more = token_next n xs x ys h in
    (more.0, rw add-one (rw add-one at more.1))

module _ (tokens later : List Kind) (end : ℕ) where
  abbrev Here : ℕ → List Kind → Type 0
  Here n ks = StandsFrom tokens later end n ks

  -- no token
  stays : (n : ℕ) (ks rest : List Kind) → ks ≡ rest → Here n ks → Here n rest
  stays n ks rest same here = subst (λ (l : List Kind). Here n l) same here

  -- one token
  token : (n : ℕ) (kind : Kind) (ks rest : List Kind) → ks ≡ kind ∷ rest → Here n ks → (slice_get tokens n ≡ Some kind) × Here (n + 1) rest
  token n kind ks rest is here =
      let cut = token_next n tokens kind (rest ++ later) (here.tokens_are ∙ ap (λ (l : List Kind). l ++ later) is) in
      let long : length ks ≡ suc (length rest) = ap length is in
      (cut.0, record { tokens_are = cut.1; count = omega (arith, here.count, long) })

  passed : (n : ℕ) (w : String) (ks rest : List Kind) → Keyword free w ks rest → Here n ks → Here (n + 1) rest
  passed n w ks rest h here = (token n (k.word h.0) ks rest h.1 here).1

  sign : (n c : ℕ) (ks rest : List Kind) → ks ≡ k.symbol c ∷ rest → Here n ks → Here (n + 1) rest
  sign n c ks rest h here = (token n (k.symbol c) ks rest h here).1

  name_right : (n : ℕ) (name : Name) (ks rest : List Kind) → IsName free name ks rest → Here n ks → (IsSpelledName tokens (placed_name n name).0) × Here (n + 1) rest
  name_right n name ks rest h here =
      let one = token n h.0 ks rest h.1 here in ((h.0, one.0, h.2), one.1)

  number_right : (n : ℕ) (number : Number) (ks rest : List Kind) → IsInt number ks rest → Here n ks → (IsSpelledNumber tokens (placed_number n number).0) × Here (n + 1) rest
  number_right n number ks rest h here = token n (k.int number.value) ks rest h here

  -- a part whose places are right, with the number after it
  abbrev IsRight : {A : Type 0} → Placing A → (A → Type 0) → (A → Part) → Type 0
  IsRight {A} place IsGood P = (n : ℕ) (a : A) (ks rest : List Kind) → P a ks rest → Here n ks → IsGood (place n a).0 × Here (place n a).1 rest

  -- lists of such parts
  module _ {A : Type 0} (place : Placing A) (IsGood : A → Type 0) (P : A → Part) (right : IsRight place IsGood P) where
    optional_right : (n : ℕ) (o : Option A) (ks rest : List Kind) → Optional P o ks rest → Here n ks → IfSome (placed_optional place n o).0 IsGood × Here (placed_optional place n o).1 rest
    optional_right n None ks rest h here = (tt, stays n ks rest h here)
    optional_right n (Some x) ks rest h here = right n x ks rest h here

    each_right : (n : ℕ) (xs : List A) (ks rest : List Kind) → Each P xs ks rest → Here n ks → All IsGood (placed_each place n xs).0 × Here (placed_each place n xs).1 rest
    each_right n [] ks rest h here = (All-nil IsGood, stays n ks rest h here)
    each_right n (x ∷ xs) ks rest h here =
        let first = right n x ks h.0 h.1 here in
        let others = each_right (place n x).1 xs h.0 rest h.2 first.1 in
        (All-cons IsGood (place n x).0 (placed_each place (place n x).1 xs).0 first.0 others.0, others.1)

  -- with one token between two
  module _ {A : Type 0} (place : Placing A) (IsGood : A → Type 0) (P : A → Part) (right : IsRight place IsGood P) (Sep : Part) (between : (n : ℕ) (ks rest : List Kind) → Sep ks rest → Here n ks → Here (n + 1) rest) where
    separated_right : (n : ℕ) (xs : List A) (ks rest : List Kind) → Separated Sep P xs ks rest → Here n ks → All IsGood (placed_separated place n xs).0 × Here (placed_separated place n xs).1 rest
    separated_right n [] ks rest h here = absurd h
    separated_right n (x ∷ xs) ks rest h here =
        let first = right n x ks h.0 h.1 here in
        let others = each_right (λ m. place (m + 1)) IsGood (λ y. Sep ▸ P y) (λ m y ls left g there. right (m + 1) y g.0 left g.2 (between m ls g.0 g.1 there)) (place n x).1 xs h.0 rest h.2 first.1 in
        (All-cons IsGood (place n x).0 (placed_each (λ m. place (m + 1)) (place n x).1 xs).0 first.0 others.0, others.1)

    -- that may be left out with what begins it
    clause_right : (Begin : Part) (first n : ℕ) → ((ks rest : List Kind) → Begin ks rest → Here n ks → Here first rest) → (xs : List A) (ks rest : List Kind) → Clause Begin Sep P xs ks rest → Here n ks → All IsGood (placed_clause place first n xs).0 × Here (placed_clause place first n xs).1 rest
    clause_right Begin first n begins [] ks rest h here = (All-nil IsGood, stays n ks rest h here)
    clause_right Begin first n begins (x ∷ xs) ks rest h here =
        separated_right first (x ∷ xs) h.0 rest h.2 (begins ks h.0 h.1 here)

  comma : (n : ℕ) (ks rest : List Kind) → Symbol "," ks rest → Here n ks → Here (n + 1) rest
  comma n ks rest h here = sign n 44 ks rest h here

  -- ---- expressions and items

  column_right : (n : ℕ) (alias name : Name) (ks rest : List Kind) → IsColumn free alias name ks rest → Here n ks → (IsSpelledName tokens (placed_name n alias).0) × (IsSpelledName tokens (placed_name (n + 1 + 1) name).0) × Here (n + 1 + 1 + 1) rest
  column_right n alias name ks rest h here =
      let first = name_right n alias ks h.0 h.1 here in
      let second = name_right (n + 1 + 1) name h.2.0 rest h.2.2 (sign (n + 1) 46 h.0 h.2.0 h.2.1 first.1) in
      (first.0, second.0, second.1)

  mutual
    term_right : (n : ℕ) (t : Term) (ks rest : List Kind) → IsTerm free t ks rest → Here n ks → IsSpelledTerm tokens (placed_term n t).0 × Here (placed_term n t).1 rest
    term_right n (int at value) ks rest h here = token n (k.int value) ks rest h here
    term_right n (str at text) ks rest h here = token n (k.str text) ks rest h here
    term_right n (regex at text) ks rest h here = token n (k.regex text) ks rest h here
    term_right n (column at alias name) ks rest h here =
        let both = column_right n alias name ks rest h here in ((refl, both.0, both.1), both.2)
    term_right n (bare at name) ks rest h here =
        let only = name_right n name ks rest h here in ((refl, only.0), only.1)
    term_right n (call at word args) ks rest h here =
        let begins = token n (k.word word) ks h.0 h.1 here in
        let inner = args_right (n + 1 + 1) args h.2.0 h.2.2.0 h.2.2.1 (sign (n + 1) 40 h.0 h.2.0 h.2.1 begins.1) in
        ((begins.0, inner.0), sign (placed_args (n + 1 + 1) args).1 41 h.2.2.0 rest h.2.2.2 inner.1)
    term_right n (star at word) ks rest h here =
        let begins = token n (k.word word) ks h.0 h.1 here in
        let opened = sign (n + 1) 40 h.0 h.2.0 h.2.1 begins.1 in
        let starred = sign (n + 1 + 1) 42 h.2.0 h.2.2.0 h.2.2.1 opened in
        (begins.0, sign (n + 1 + 1 + 1) 41 h.2.2.0 rest h.2.2.2 starred)

    args_right : (n : ℕ) (ts : Terms) (ks rest : List Kind) → AreArgs free ts ks rest → Here n ks → AreSpelledArgs tokens (placed_args n ts).0 × Here (placed_args n ts).1 rest
    args_right n no_terms ks rest h here = (tt, stays n ks rest h here)
    args_right n (more_terms arg args) ks rest h here =
        let first = term_right n arg ks h.0 h.1 here in
        let others = later_args_right (placed_term n arg).1 args h.0 rest h.2 first.1 in
        ((first.0, others.0), others.1)

    later_args_right : (n : ℕ) (ts : Terms) (ks rest : List Kind) → AreLaterArgs free ts ks rest → Here n ks → AreSpelledArgs tokens (placed_later_args n ts).0 × Here (placed_later_args n ts).1 rest
    later_args_right n no_terms ks rest h here = (tt, stays n ks rest h here)
    later_args_right n (more_terms arg args) ks rest h here =
        let first = term_right (n + 1) arg h.0 h.2.0 h.2.1 (comma n ks h.0 h.1 here) in
        let others = later_args_right (placed_term (n + 1) arg).1 args h.2.0 rest h.2.2 first.1 in
        ((first.0, others.0), others.1)

  output_right : (n : ℕ) (name : Name) (ks rest : List Kind) → IsOutput free name ks rest → Here n ks → (IsSpelledName tokens (placed_output n name).0) × Here (n + 1 + 1) rest
  output_right n name ks rest h here = name_right (n + 1) name h.0 rest h.2 (passed n "as" ks h.0 h.1 here)

  item_right : (n : ℕ) (item : Item) (ks rest : List Kind) → IsItem free item ks rest → Here n ks → IsSpelledItem tokens (placed_item n item).0 × Here (placed_item n item).1 rest
  item_right n item ks rest h here = of_parts item.expr item.name h
    where
      of_parts : (expr : Term) (name : Option Name) → IsNamed free expr name ks rest → IsSpelledItem tokens (placed_item n (record { expr = expr; name = name })).0 × Here (placed_item n (record { expr = expr; name = name })).1 rest
      of_parts expr (Some name) h =
          let first = term_right n expr ks h.0 h.1 here in
          let second = output_right (placed_term n expr).1 name h.0 rest h.2 first.1 in
          ((first.0, second.0), second.1)
      of_parts (column at alias name) None h =
          let both = column_right n alias name ks rest h here in (((refl, both.0, both.1), tt), both.2)
      of_parts (int at value) None h = absurd h
      of_parts (str at text) None h = absurd h
      of_parts (regex at text) None h = absurd h
      of_parts (bare at name) None h = absurd h
      of_parts (call at word args) None h = absurd h
      of_parts (star at word) None h = absurd h

  item_before_right : (n : ℕ) (item : Item) (ks rest : List Kind) → (IsItem free item ▸ Symbol ",") ks rest → Here n ks → IsSpelledItem tokens (placed_item_before n item).0 × Here (placed_item_before n item).1 rest
  item_before_right n item ks rest h here =
      let first = item_right n item ks h.0 h.1 here in
      (first.0, comma (placed_item n item).1 h.0 rest h.2 first.1)

  items_before_right : (n : ℕ) (items : List Item) (ks rest : List Kind) → AreItemsBefore free items ks rest → Here n ks → All (IsSpelledItem tokens) (placed_each placed_item_before n items).0 × Here (placed_each placed_item_before n items).1 rest
  items_before_right n items ks rest h here =
      each_right placed_item_before (IsSpelledItem tokens) (λ item. IsItem free item ▸ Symbol ",") item_before_right n items ks rest h here

  -- ---- what an extraction looks for

  range_right : (n : ℕ) (range : Range) (ks rest : List Kind) → IsRange free range ks rest → Here n ks → IsSpelledRange tokens (placed_range n range).0 × Here (placed_range n range).1 rest
  range_right n (one number) ks rest h here = number_right n number ks rest h here
  range_right n (two low high) ks rest h here =
      let first = number_right (n + 1) low h.0 h.2.0 h.2.1 (passed n "between" ks h.0 h.1 here) in
      let second = number_right (n + 1 + 1 + 1) high h.2.2.0 rest h.2.2.2 (passed (n + 1 + 1) "and" h.2.0 h.2.2.0 h.2.2.1 first.1) in
      ((first.0, second.0), second.1)

  count_word : (n : ℕ) (ks rest : List Kind) → IsCountWord free ks rest → Here n ks → Here (n + 1) rest
  count_word n ks rest h here = ⊎_elim (λ w. passed n "token" ks rest w here) (λ w. passed n "tokens" ks rest w here) h

  bound_right : (n : ℕ) (range : Range) (ks rest : List Kind) → IsBound free range ks rest → Here n ks → IsSpelledRange tokens (placed_bound n range).0 × Here (placed_bound n range).1 rest
  bound_right n range ks rest h here =
      let first = range_right n range ks h.0 h.1 here in
      let m = (placed_range n range).1 in
      (first.0, passed (m + 1) "in" h.2.0 rest h.2.2 (count_word m h.0 h.2.0 h.2.1 first.1))

  numbered_right : (n : ℕ) (number : Option Number) (name : Name) (ks rest : List Kind) → IsNumbered free number name ks rest → Here n ks → IsSpelledGroup tokens (placed_numbered n (record { number = number; name = name })).0 × Here (placed_numbered n (record { number = number; name = name })).1 rest
  numbered_right n None name ks rest h here = absurd h
  numbered_right n (Some number) name ks rest h here =
      let first = number_right (n + 1) number h.0 h.2.0 h.2.1 (passed n "group" ks h.0 h.1 here) in
      let second = output_right (n + 1 + 1) name h.2.0 rest h.2.2 first.1 in
      ((first.0, second.0), second.1)

  only_group_right : (n : ℕ) (number : Option Number) (name : Name) (ks rest : List Kind) → IsOnlyGroup free number name ks rest → Here n ks → IsSpelledGroup tokens (placed_only_group n number name).0 × Here (placed_only_group n number name).1 rest
  only_group_right n None name ks rest h here =
      let only = output_right n name ks rest h here in ((tt, only.0), only.1)
  only_group_right n (Some number) name ks rest h here =
      numbered_right (n + 1) (Some number) name h.0 rest h.2 (passed n "return" ks h.0 h.1 here)

  groups_right : (n : ℕ) (groups : List Group) (ks rest : List Kind) → AreGroups free groups ks rest → Here n ks → All (IsSpelledGroup tokens) (placed_groups n groups).0 × Here (placed_groups n groups).1 rest
  groups_right n [] ks rest h here = absurd h
  groups_right n (group ∷ []) ks rest h here =
      let only = only_group_right n group.number group.name ks rest h here in
      (All-cons (IsSpelledGroup tokens) (placed_only_group n group.number group.name).0 [] only.0 (All-nil (IsSpelledGroup tokens)), only.1)
  groups_right n (group ∷ other ∷ groups) ks rest h here =
      separated_right placed_numbered (IsSpelledGroup tokens) (λ g. IsNumbered free g.number g.name) (λ m g ls left w there. numbered_right m g.number g.name ls left w there)
      (Keyword free "and") (λ m ls left w there. passed m "and" ls left w there) (n + 1) (group ∷ other ∷ groups) h.0 rest h.2 (passed n "return" ks h.0 h.1 here)

  pattern_right : (n : ℕ) (text : Name) (bound : Option Range) (alias name : Name) (groups : List Group) (ks rest : List Kind) → IsPattern free text bound alias name groups ks rest → Here n ks → IsSpelledSpec tokens (placed_spec n (pattern text bound alias name groups)).0 × Here (placed_spec n (pattern text bound alias name groups)).1 rest
  pattern_right n text bound alias name groups ks rest h here =
      let a = h.2 in
      let b = a.2 in
      let c = b.2 in
      let d = c.2 in
      let found = token (n + 1) (k.regex text.text) h.0 a.0 a.1 (passed n "regex" ks h.0 h.1 here) in
      let bounded = optional_right placed_bound (IsSpelledRange tokens) (IsBound free) bound_right (n + 1 + 1 + 1) bound b.0 c.0 c.1 (passed (n + 1 + 1) "on" a.0 b.0 b.1 found.1) in
      let m = (placed_optional placed_bound (n + 1 + 1 + 1) bound).1 in
      let names = column_right m alias name c.0 d.0 d.1 bounded.1 in
      let given = groups_right (m + 1 + 1 + 1) groups d.0 rest d.2 names.2 in
      ((found.0, bounded.0, names.0, names.1, given.0), given.1)

  dictionary_name_right : (n : ℕ) (name : Name) (ks rest : List Kind) → IsDictionaryName free name ks rest → Here n ks → (IsSpelledDictionary tokens (placed_name n name).0) × Here (n + 1) rest
  dictionary_name_right n name ks rest h here =
      let only = token n h.0 ks rest h.1 here in ((h.0, only.0, h.2), only.1)

  flag_passed : (n : ℕ) (flag : Option Flag) (ks rest : List Kind) → Optional (IsFlag free) flag ks rest → Here n ks → Here (after_flag n flag) rest
  flag_passed n None ks rest h here = stays n ks rest h here
  flag_passed n (Some flag) ks rest h here =
      (token (n + 1 + 1) _ h.2.0 rest h.2.2 (passed (n + 1) "flags" h.0 h.2.0 h.2.1 (passed n "with" ks h.0 h.1 here))).1

  dict_right : (n : ℕ) (table : Name) (flag : Option Flag) (alias name out : Name) (ks rest : List Kind) → IsDict free table flag alias name out ks rest → Here n ks → IsSpelledSpec tokens (placed_spec n (dict table flag alias name out)).0 × Here (placed_spec n (dict table flag alias name out)).1 rest
  dict_right n table flag alias name out ks rest h here =
      let a = h.2 in
      let b = a.2 in
      let c = b.2 in
      let d = c.2 in
      let m = after_flag (n + 1 + 1) flag in
      let found = dictionary_name_right (n + 1) table h.0 a.0 a.1 (passed n "dictionary" ks h.0 h.1 here) in
      let flagged = flag_passed (n + 1 + 1) flag a.0 b.0 b.1 found.1 in
      let names = column_right (m + 1) alias name c.0 d.0 d.1 (passed m "on" b.0 c.0 c.1 flagged) in
      let given = output_right (m + 1 + 1 + 1 + 1) out d.0 rest d.2 names.2 in
      ((found.0, names.0, names.1, given.0), given.1)

  blocks_right : (n : ℕ) (count gap : Range) (counts_tokens : Bool) (alias name out : Name) (ks rest : List Kind) → IsBlocks free count gap counts_tokens alias name out ks rest → Here n ks → IsSpelledSpec tokens (placed_spec n (blocks count gap counts_tokens alias name out)).0 × Here (placed_spec n (blocks count gap counts_tokens alias name out)).1 rest
  blocks_right n count gap counts_tokens alias name out ks rest h here =
      let a = h.2 in
      let b = a.2 in
      let c = b.2 in
      let d = c.2 in
      let e = d.2 in
      let f = e.2 in
      let g = f.2 in
      let i = g.2 in
      let j = i.2 in
      let counted = range_right (n + 1 + 1 + 1) count b.0 c.0 c.1 (passed (n + 1 + 1) "count" a.0 b.0 b.1 (passed (n + 1) "with" h.0 a.0 a.1 (passed n "blocks" ks h.0 h.1 here))) in
      let m = (placed_range (n + 1 + 1 + 1) count).1 in
      let apart = range_right (m + 1 + 1) gap e.0 f.0 f.1 (passed (m + 1) "separation" d.0 e.0 e.1 (passed m "and" c.0 d.0 d.1 counted.1)) in
      let l = (placed_range (m + 1 + 1) gap).1 in
      let unit = token l (k.word g.1.0) f.0 g.0 g.1.1 apart.1 in
      let names = column_right (l + 1 + 1) alias name i.0 j.0 j.1 (passed (l + 1) "on" g.0 i.0 i.1 unit.1) in
      let given = output_right (l + 1 + 1 + 1 + 1 + 1) out j.0 rest j.2 names.2 in
      ((counted.0, apart.0, names.0, names.1, given.0), given.1)

  extracted_right : (n : ℕ) (items : List Item) (spec : Spec) (ks rest : List Kind) → IsExtracted free items spec ks rest → Here n ks → All (IsSpelledItem tokens) (placed_each placed_item_before n items).0 × IsSpelledSpec tokens (placed_spec (placed_each placed_item_before n items).1 spec).0 × Here (placed_spec (placed_each placed_item_before n items).1 spec).1 rest
  extracted_right n items (pattern text bound alias name groups) ks rest h here =
      let before = items_before_right n items ks h.0 h.1 here in
      let found = pattern_right (placed_each placed_item_before n items).1 text bound alias name groups h.0 rest h.2 before.1 in
      (before.0, found.0, found.1)
  extracted_right n items (dict table flag alias name out) ks rest h here =
      let before = items_before_right n items ks h.0 h.1 here in
      let found = dict_right (placed_each placed_item_before n items).1 table flag alias name out h.0 rest h.2 before.1 in
      (before.0, found.0, found.1)
  extracted_right n [] (blocks count gap counts_tokens alias name out) ks rest h here =
      let found = blocks_right n count gap counts_tokens alias name out ks rest h here in
      (All-nil (IsSpelledItem tokens), found.0, found.1)
  extracted_right n (item ∷ items) (blocks count gap counts_tokens alias name out) ks rest h here = absurd h

  -- ---- clauses

  conds_right : (w : String) (n : ℕ) (conds : List Term) (ks rest : List Kind) → AreConds free (Keyword free w) conds ks rest → Here n ks → All (IsSpelledTerm tokens) (placed_clause placed_term (n + 1) n conds).0 × Here (placed_clause placed_term (n + 1) n conds).1 rest
  conds_right w n conds ks rest h here =
      clause_right placed_term (IsSpelledTerm tokens) (IsTerm free) term_right (Keyword free "and") (λ m ls left g there. passed m "and" ls left g there)
      (Keyword free w) (n + 1) n (λ ls left g there. passed n w ls left g there) conds ks rest h here

  keys_right : (w : String) (n : ℕ) (keys : List Term) (ks rest : List Kind) → AreKeys free (Keyword free w) keys ks rest → Here n ks → All (IsSpelledTerm tokens) (placed_clause placed_term (n + 1 + 1) n keys).0 × Here (placed_clause placed_term (n + 1 + 1) n keys).1 rest
  keys_right w n keys ks rest h here =
      clause_right placed_term (IsSpelledTerm tokens) (IsTerm free) term_right (Symbol ",") comma
      (Keyword free w ▸ Keyword free "by") (n + 1 + 1) n (λ ls left g there. passed (n + 1) "by" g.0 left g.2 (passed n w ls g.0 g.1 there)) keys ks rest h here

  policy_right : (n : ℕ) (policy : Name) (ks rest : List Kind) → IsPolicy free policy ks rest → Here n ks → IsSpelledPolicy tokens (placed_output n policy).0 × Here (placed_output n policy).1 rest
  policy_right n policy ks rest h here = token (n + 1) (k.str policy.text) h.0 rest h.2 (passed n "using" ks h.0 h.1 here)

  cons_right : (n : ℕ) (cons : Cons) (ks rest : List Kind) → IsCons free cons ks rest → Here n ks → IsSpelledCons tokens (placed_cons n cons).0 × Here (placed_cons n cons).1 rest
  cons_right n cons ks rest h here =
      let a = h.2 in
      let b = a.2 in
      let target = term_right (n + 1 + 1) cons.target a.0 b.0 b.1 (passed (n + 1) "on" h.0 a.0 a.1 (passed n "consolidate" ks h.0 h.1 here)) in
      let policy = optional_right placed_output (IsSpelledPolicy tokens) (IsPolicy free) policy_right (placed_term (n + 1 + 1) cons.target).1 cons.policy b.0 rest b.2 target.1 in
      ((target.0, policy.0), policy.1)

  limit_right : (n : ℕ) (number : Number) (ks rest : List Kind) → IsLimit free number ks rest → Here n ks → IsSpelledNumber tokens (placed_limit n number).0 × Here (placed_limit n number).1 rest
  limit_right n number ks rest h here = number_right (n + 1) number h.0 rest h.2 (passed n "limit" ks h.0 h.1 here)

  clauses_right : (n : ℕ) (clauses : Clauses) (ks rest : List Kind) → AreClauses free clauses ks rest → Here n ks → AreSpelledClauses tokens (placed_clauses n clauses).0 × Here (placed_clauses n clauses).1 rest
  clauses_right n clauses ks rest h here =
      let a = h.2 in
      let b = a.2 in
      let c = b.2 in
      let conds = conds_right "where" n clauses.conds ks h.0 h.1 here in
      let m = (placed_clause placed_term (n + 1) n clauses.conds).1 in
      let cons = optional_right placed_cons (IsSpelledCons tokens) (IsCons free) cons_right m clauses.cons h.0 a.0 a.1 conds.1 in
      let l = (placed_optional placed_cons m clauses.cons).1 in
      let group = keys_right "group" l clauses.group a.0 b.0 b.1 cons.1 in
      let j = (placed_clause placed_term (l + 1 + 1) l clauses.group).1 in
      let order = keys_right "order" j clauses.order b.0 c.0 c.1 group.1 in
      let i = (placed_clause placed_term (j + 1 + 1) j clauses.order).1 in
      let limit = optional_right placed_limit (IsSpelledNumber tokens) (IsLimit free) limit_right i clauses.limit c.0 rest c.2 order.1 in
      ((conds.0, cons.0, group.0, order.0, limit.0), limit.1)

  tail_right : (n : ℕ) (tail : Tail) (ks rest : List Kind) → IsTail free tail ks rest → Here n ks → IsSpelledTail tokens (placed_tail n tail).0 × Here (placed_tail n tail).1 rest
  tail_right n tail ks rest h here =
      let a = h.2 in
      let conds = conds_right "having" n tail.conds ks h.0 h.1 here in
      let m = (placed_clause placed_term (n + 1) n tail.conds).1 in
      let cons = optional_right placed_cons (IsSpelledCons tokens) (IsCons free) cons_right m tail.cons h.0 a.0 a.1 conds.1 in
      let l = (placed_optional placed_cons m tail.cons).1 in
      let limit = optional_right placed_limit (IsSpelledNumber tokens) (IsLimit free) limit_right l tail.limit a.0 rest a.2 cons.1 in
      ((conds.0, cons.0, limit.0), limit.1)

  -- ---- queries

  other_sides : (sides : Queries) (ks rest : List Kind) → AreOtherSides free sides ks rest → AreLaterSides free sides ks rest
  other_sides no_queries ks rest h = absurd h
  other_sides (more_queries side sides) ks rest h = h

  mutual
    query_right : (n : ℕ) (q : Query) (ks rest : List Kind) → IsQuery free q ks rest → Here n ks → IsSpelledQuery tokens (placed_query n q).0 × Here (placed_query n q).1 rest
    query_right n (select at items sources clauses) ks rest h here =
        let a = h.2 in
        let b = a.2 in
        let c = b.2 in
        let begins = token n (k.word h.1.0) ks h.0 h.1.1 here in
        let listed = separated_right placed_item (IsSpelledItem tokens) (IsItem free) item_right (Symbol ",") comma (n + 1) items h.0 a.0 a.1 begins.1 in
        let m = (placed_separated placed_item (n + 1) items).1 in
        let froms = sources_right (m + 1) sources b.0 c.0 c.1 (passed m "from" a.0 b.0 b.1 listed.1) in
        let ends = clauses_right (placed_sources (m + 1) sources).1 clauses c.0 rest c.2 froms.1 in
        (((h.1.0, begins.0, h.1.2), listed.0, froms.0, ends.0), ends.1)
    query_right n (extract at items spec source tail) ks rest h here =
        let a = h.2 in
        let b = a.2 in
        let c = b.2 in
        let begins = token n (k.word h.1.0) ks h.0 h.1.1 here in
        let found = extracted_right (n + 1) items spec h.0 a.0 a.1 begins.1 in
        let m = (placed_spec (placed_each placed_item_before (n + 1) items).1 spec).1 in
        let from_ = source_right (m + 1) source b.0 c.0 c.1 (passed m "from" a.0 b.0 b.1 found.2) in
        let ends = tail_right (placed_source (m + 1) source).1 tail c.0 rest c.2 from_.1 in
        (((h.1.0, begins.0, h.1.2), found.0, found.1, from_.0, ends.0), ends.1)
    query_right n (union sides) ks rest h here = sides_right n sides ks rest h here
    query_right n (minus left right) ks rest h here =
        let p = h.1 in
        let q = h.2.2 in
        let first = query_right (n + 1) left p.0 p.2.0 p.2.1 (sign n 40 ks p.0 p.1 here) in
        let m = (placed_query (n + 1) left).1 in
        let closed = sign m 41 p.2.0 h.0 p.2.2 first.1 in
        let opened = sign (m + 1 + 1) 40 h.2.0 q.0 q.1 (passed (m + 1) "minus" h.0 h.2.0 h.2.1 closed) in
        let second = query_right (m + 1 + 1 + 1) right q.0 q.2.0 q.2.1 opened in
        ((first.0, second.0), sign (placed_query (m + 1 + 1 + 1) right).1 41 q.2.0 rest q.2.2 second.1)

    sides_right : (n : ℕ) (sides : Queries) (ks rest : List Kind) → AreSides free sides ks rest → Here n ks → AreSpelledSides tokens (placed_sides n sides).0 × Here (placed_sides n sides).1 rest
    sides_right n no_queries ks rest h here = absurd h
    sides_right n (more_queries side sides) ks rest h here =
        let p = h.1 in
        let first = query_right (n + 1) side p.0 p.2.0 p.2.1 (sign n 40 ks p.0 p.1 here) in
        let m = (placed_query (n + 1) side).1 in
        let others = later_sides_right (m + 1) sides h.0 rest (other_sides sides h.0 rest h.2) (sign m 41 p.2.0 h.0 p.2.2 first.1) in
        ((first.0, others.0), others.1)

    later_sides_right : (n : ℕ) (sides : Queries) (ks rest : List Kind) → AreLaterSides free sides ks rest → Here n ks → AreSpelledSides tokens (placed_later_sides n sides).0 × Here (placed_later_sides n sides).1 rest
    later_sides_right n no_queries ks rest h here = (tt, stays n ks rest h here)
    later_sides_right n (more_queries side sides) ks rest h here =
        let a = h.2 in
        let b = a.2 in
        let p = b.1 in
        let opened = sign (n + 1 + 1) 40 a.0 p.0 p.1 (passed (n + 1) "all" h.0 a.0 a.1 (passed n "union" ks h.0 h.1 here)) in
        let first = query_right (n + 1 + 1 + 1) side p.0 p.2.0 p.2.1 opened in
        let m = (placed_query (n + 1 + 1 + 1) side).1 in
        let others = later_sides_right (m + 1) sides b.0 rest b.2 (sign m 41 p.2.0 b.0 p.2.2 first.1) in
        ((first.0, others.0), others.1)

    source_right : (n : ℕ) (source : Source) (ks rest : List Kind) → IsSource free source ks rest → Here n ks → IsSpelledSource tokens (placed_source n source).0 × Here (placed_source n source).1 rest
    source_right n (view name alias) ks rest h here =
        let first = name_right n name ks h.0 h.1 here in
        let second = optional_right placed_name (IsSpelledName tokens) (IsName free) name_right (n + 1) alias h.0 rest h.2 first.1 in
        ((first.0, second.0), second.1)
    source_right n (nested query alias) ks rest h here =
        let p = h.1 in
        let first = query_right (n + 1) query p.0 p.2.0 p.2.1 (sign n 40 ks p.0 p.1 here) in
        let m = (placed_query (n + 1) query).1 in
        let second = name_right (m + 1) alias h.0 rest h.2 (sign m 41 p.2.0 h.0 p.2.2 first.1) in
        ((first.0, second.0), second.1)

    sources_right : (n : ℕ) (sources : Sources) (ks rest : List Kind) → AreSources free sources ks rest → Here n ks → AreSpelledSources tokens (placed_sources n sources).0 × Here (placed_sources n sources).1 rest
    sources_right n no_sources ks rest h here = absurd h
    sources_right n (more_sources source sources) ks rest h here =
        let first = source_right n source ks h.0 h.1 here in
        let others = later_sources_right (placed_source n source).1 sources h.0 rest h.2 first.1 in
        ((first.0, others.0), others.1)

    later_sources_right : (n : ℕ) (sources : Sources) (ks rest : List Kind) → AreLaterSources free sources ks rest → Here n ks → AreSpelledSources tokens (placed_later_sources n sources).0 × Here (placed_later_sources n sources).1 rest
    later_sources_right n no_sources ks rest h here = (tt, stays n ks rest h here)
    later_sources_right n (more_sources source sources) ks rest h here =
        let first = source_right (n + 1) source h.0 h.2.0 h.2.1 (comma n ks h.0 h.1 here) in
        let others = later_sources_right (placed_source (n + 1) source).1 sources h.2.0 rest h.2.2 first.1 in
        ((first.0, others.0), others.1)

  -- ---- statements

  -- two keywords and a name
  named_right : (n : ℕ) (v w : String) (name : Name) (Rest : Part) (ks rest : List Kind) → (Keyword free v ▸ Keyword free w ▸ IsName free name ▸ Rest) ks rest → Here n ks → (mid : List Kind) × (IsSpelledName tokens (placed_name (n + 1 + 1) name).0) × Here (n + 1 + 1 + 1) mid × Rest mid rest
  named_right n v w name Rest ks rest h here =
      let a = h.2 in
      let b = a.2 in
      let only = name_right (n + 1 + 1) name a.0 b.0 b.1 (passed (n + 1) w h.0 a.0 a.1 (passed n v ks h.0 h.1 here)) in
      (b.0, only.0, only.1, b.2)

  statement_right : (n : ℕ) (s : Statement) (ks rest : List Kind) → IsStatement free s ks rest → Here n ks → IsSpelled tokens (placed_statement n s)
  statement_right n (module_ name) ks rest h here =
      (name_right (n + 1) name h.0 h.2.0 h.2.1 (passed n "module" ks h.0 h.1 here)).0
  statement_right n require ks rest h here = tt
  statement_right n (export name) ks rest h here = (named_right n "export" "view" name (Symbol ";") ks rest h here).1
  statement_right n (dictionary name entries) ks rest h here =
      (named_right n "create" "dictionary" name (Keyword free "as" ▸ InParens (Separated (Symbol ",") (IsText free) entries) ▸ Symbol ";") ks rest h here).1
  statement_right n (create name query) ks rest h here =
      let named = named_right n "create" "view" name (Keyword free "as" ▸ IsQuery free query ▸ Symbol ";") ks rest h here in
      let a = named.3 in
      (named.1, (query_right (n + 1 + 1 + 1 + 1) query a.0 a.2.0 a.2.1 (passed (n + 1 + 1 + 1) "as" named.0 a.0 a.1 named.2)).0)
  statement_right n (output name alias) ks rest h here =
      (named_right n "output" "view" name (Optional (λ text. Keyword free "as" ▸ IsText free text) alias ▸ Symbol ";") ks rest h here).1

-- ---- the number after a part

-- tokens behind n others
padded : ℕ → List Kind → List Kind
padded zero ks = ks
padded (suc n) ks = k.symbol 0 ∷ padded n ks

drop_padded : (n : ℕ) (ks : List Kind) → drop n (padded n ks) ≡ ks
unfolding padded
drop_padded zero ks = refl
drop_padded (suc n) ks = drop_padded n ks

-- the number after a query is that of its first token and the number of its tokens
pub number_after : (n : ℕ) (q : Query) (ks rest : List Kind) → IsQuery free q ks rest → (placed_query n q).1 + length rest ≡ n + length ks
number_after n q ks rest h =
    (query_right (padded n ks) [] (n + length ks) n q ks rest h (record { tokens_are = drop_padded n ks ∙ sym (append-nil ks); count = refl })).1.count

-- ---- all statements of a program

joined : List (List Kind) → List Kind
joined [] = []
joined (run ∷ runs) = run ++ joined runs

joined_begun : (kind : Kind) (runs : List (List Kind)) → joined (begun_with kind runs) ≡ kind ∷ joined runs
unfolding joined
joined_begun kind [] = refl
joined_begun kind (run ∷ runs) = refl

joined_first : (kind : Kind) (runs : List (List Kind)) (b : Bool) → joined (if b then (kind ∷ []) ∷ runs else begun_with kind runs) ≡ kind ∷ joined runs
unfolding joined
joined_first kind runs true = refl
joined_first kind runs false = joined_begun kind runs

-- the runs are all tokens, one after another
joined_runs : (ks : List Kind) → joined (runs_of ks) ≡ ks
unfolding joined
joined_runs [] = refl
joined_runs (kind ∷ ks) = joined_first kind (runs_of ks) (is_end kind) ∙ ap (λ (l : List Kind). kind ∷ l) (joined_runs ks)

-- the tokens after a run
after_run : (tokens : List Kind) (n : ℕ) (run later : List Kind) → drop n tokens ≡ run ++ later → drop (n + length run) tokens ≡ later
after_run tokens n run later h =
    let moved : drop (length run) (drop n tokens) ≡ later = ap (drop (length run)) h ∙ drop-append_seam run later in
    rw drop-drop at moved

each_spelled : (tokens : List Kind) (n : ℕ) (runs : List (List Kind)) (statements : List Statement) → drop n tokens ≡ joined runs → AllZip HasTokens statements runs → All (IsSpelled tokens) (placed_from n runs statements)
unfolding joined
each_spelled tokens n [] [] here h = All-nil (IsSpelled tokens)
each_spelled tokens n [] (s ∷ ss) here h = absurd h
each_spelled tokens n (run ∷ runs) [] here h = absurd h
each_spelled tokens n (run ∷ runs) (s ∷ ss) here h =
    All-cons (IsSpelled tokens) (placed_statement n s) (placed_from (n + length run) runs ss)
    (statement_right tokens (joined runs) (n + length run) n s run [] h.0 (record { tokens_are = here; count = refl }))
    (each_spelled tokens (n + length run) runs ss (after_run tokens n run (joined runs) here) h.1)

-- statements that have these tokens, with their places, are spelled by the tokens with their numbers
pub spelled : (tokens : List Kind) (statements : List Statement) → AreTokensOf tokens statements → placed_in tokens statements ≡ statements → All (IsSpelled tokens) statements
spelled tokens statements h placed =
    subst (All (IsSpelled tokens)) placed (each_spelled tokens 0 (runs_of tokens) statements (sym (joined_runs tokens)) h.each)
