-- What may stand after a query's clauses, and that nothing else goes on there.
use Rattle.std.proofs.Common.{◌≡◌, ◌∙◌, ℕ, suc, ◌≤◌, true, false, not, List, [], ◌∷◌, Option, Some, None, refl, ap, arith, codes}
use Prim.Native.String.{String}
use Rattle.aql_lexer.specs.Kinds.{Kind}
use Rattle.aql_lexer.specs.Kinds as k
use Rattle.aql_syntax.specs.Spellings.{free, is_reserved, same_word}
use Rattle.aql_syntax.specs.Parts.{Part, Keyword, Optional, Clause}
use Rattle.aql_parser.specs.Readers.{sees, sees_sign, sees_name}
use Rattle.aql_parser.proofs.ExpressionRules.{StopsTerm}
use Rattle.aql_parser.proofs.ItemRules.{no_other, reserved_as}

-- the words that begin clauses, in their order
pub data IsClauseWord : ℕ → String → Type 0 where
  where_word : IsClauseWord 0 "where"
  having_word : IsClauseWord 0 "having"
  consolidate_word : IsClauseWord 1 "consolidate"
  group_word : IsClauseWord 2 "group"
  order_word : IsClauseWord 3 "order"
  limit_word : IsClauseWord 4 "limit"

-- the end of a statement or a query, or a clause from this one on
pub data Ends : ℕ → List Kind → Type 0 where
  at_semicolon : {r : ℕ} {ks : List Kind} → Ends r (k.symbol 59 ∷ ks)
  at_close : {r : ℕ} {ks : List Kind} → Ends r (k.symbol 41 ∷ ks)
  at_clause : {r i : ℕ} {w : String} {v : List ℕ} {ks : List Kind} → IsClauseWord i w → r ≤ i → same_word v (codes w) ≡ true → Ends r (k.word v ∷ ks)

clause_reserved : {i : ℕ} {w : String} → IsClauseWord i w → is_reserved (codes w) ≡ true
unfolding is_reserved same_word
clause_reserved where_word = refl
clause_reserved having_word = refl
clause_reserved consolidate_word = refl
clause_reserved group_word = refl
clause_reserved order_word = refl
clause_reserved limit_word = refl

pub ends_stops_term : {r : ℕ} {ks : List Kind} → Ends r ks → StopsTerm ks
ends_stops_term at_semicolon = (refl, refl)
ends_stops_term at_close = (refl, refl)
ends_stops_term (at_clause c le same) = (refl, refl)

pub ends_no_comma : {r : ℕ} {ks : List Kind} → Ends r ks → sees_sign "," ks ≡ false
ends_no_comma at_semicolon = refl
ends_no_comma at_close = refl
ends_no_comma (at_clause c le same) = refl

pub ends_no_name : {r : ℕ} {ks : List Kind} → Ends r ks → sees_name ks ≡ false
ends_no_name at_semicolon = refl
ends_no_name at_close = refl
ends_no_name (at_clause {w = w} {v = v} c le same) = ap not (reserved_as v (codes w) same ∙ clause_reserved c)

-- a word that begins no clause from here on
ends_no_word : {r : ℕ} {ks : List Kind} (u : String) → ((i : ℕ) (w : String) → IsClauseWord i w → r ≤ i → same_word (codes w) (codes u) ≡ false) → Ends r ks → sees u ks ≡ false
ends_no_word u apart at_semicolon = refl
ends_no_word u apart at_close = refl
ends_no_word u apart (at_clause {i = i} {w = w} {v = v} c le same) = no_other v (codes w) (codes u) same (apart i w c le)

pub ends_weaker : {r : ℕ} {ks : List Kind} (s : ℕ) → s ≤ r → Ends r ks → Ends s ks
ends_weaker s less at_semicolon = at_semicolon
ends_weaker s less at_close = at_close
ends_weaker s less (at_clause c le same) = at_clause c (omega arith) same

apart_and : (i : ℕ) (w : String) → IsClauseWord i w → 0 ≤ i → same_word (codes w) (codes "and") ≡ false
unfolding same_word
apart_and i w where_word le = refl
apart_and i w having_word le = refl
apart_and i w consolidate_word le = refl
apart_and i w group_word le = refl
apart_and i w order_word le = refl
apart_and i w limit_word le = refl

pub ends_no_and : {ks : List Kind} → Ends 0 ks → sees "and" ks ≡ false
ends_no_and e = ends_no_word "and" apart_and e

apart_using : (i : ℕ) (w : String) → IsClauseWord i w → 0 ≤ i → same_word (codes w) (codes "using") ≡ false
unfolding same_word
apart_using i w where_word le = refl
apart_using i w having_word le = refl
apart_using i w consolidate_word le = refl
apart_using i w group_word le = refl
apart_using i w order_word le = refl
apart_using i w limit_word le = refl

pub ends_no_using : {ks : List Kind} → Ends 0 ks → sees "using" ks ≡ false
ends_no_using e = ends_no_word "using" apart_using e

apart_union : (i : ℕ) (w : String) → IsClauseWord i w → 0 ≤ i → same_word (codes w) (codes "union") ≡ false
unfolding same_word
apart_union i w where_word le = refl
apart_union i w having_word le = refl
apart_union i w consolidate_word le = refl
apart_union i w group_word le = refl
apart_union i w order_word le = refl
apart_union i w limit_word le = refl

pub ends_no_union : {ks : List Kind} → Ends 0 ks → sees "union" ks ≡ false
ends_no_union e = ends_no_word "union" apart_union e

apart_where : (i : ℕ) (w : String) → IsClauseWord i w → 1 ≤ i → same_word (codes w) (codes "where") ≡ false
unfolding same_word
apart_where i w where_word le = absurd (omega (arith, le))
apart_where i w having_word le = absurd (omega (arith, le))
apart_where i w consolidate_word le = refl
apart_where i w group_word le = refl
apart_where i w order_word le = refl
apart_where i w limit_word le = refl

pub ends_no_where : {ks : List Kind} → Ends 1 ks → sees "where" ks ≡ false
ends_no_where e = ends_no_word "where" apart_where e

apart_having : (i : ℕ) (w : String) → IsClauseWord i w → 1 ≤ i → same_word (codes w) (codes "having") ≡ false
unfolding same_word
apart_having i w where_word le = absurd (omega (arith, le))
apart_having i w having_word le = absurd (omega (arith, le))
apart_having i w consolidate_word le = refl
apart_having i w group_word le = refl
apart_having i w order_word le = refl
apart_having i w limit_word le = refl

pub ends_no_having : {ks : List Kind} → Ends 1 ks → sees "having" ks ≡ false
ends_no_having e = ends_no_word "having" apart_having e

apart_consolidate : (i : ℕ) (w : String) → IsClauseWord i w → 2 ≤ i → same_word (codes w) (codes "consolidate") ≡ false
unfolding same_word
apart_consolidate i w where_word le = absurd (omega (arith, le))
apart_consolidate i w having_word le = absurd (omega (arith, le))
apart_consolidate i w consolidate_word le = absurd (omega (arith, le))
apart_consolidate i w group_word le = refl
apart_consolidate i w order_word le = refl
apart_consolidate i w limit_word le = refl

pub ends_no_consolidate : {ks : List Kind} → Ends 2 ks → sees "consolidate" ks ≡ false
ends_no_consolidate e = ends_no_word "consolidate" apart_consolidate e

apart_group : (i : ℕ) (w : String) → IsClauseWord i w → 3 ≤ i → same_word (codes w) (codes "group") ≡ false
unfolding same_word
apart_group i w where_word le = absurd (omega (arith, le))
apart_group i w having_word le = absurd (omega (arith, le))
apart_group i w consolidate_word le = absurd (omega (arith, le))
apart_group i w group_word le = absurd (omega (arith, le))
apart_group i w order_word le = refl
apart_group i w limit_word le = refl

pub ends_no_group : {ks : List Kind} → Ends 3 ks → sees "group" ks ≡ false
ends_no_group e = ends_no_word "group" apart_group e

apart_order : (i : ℕ) (w : String) → IsClauseWord i w → 4 ≤ i → same_word (codes w) (codes "order") ≡ false
unfolding same_word
apart_order i w where_word le = absurd (omega (arith, le))
apart_order i w having_word le = absurd (omega (arith, le))
apart_order i w consolidate_word le = absurd (omega (arith, le))
apart_order i w group_word le = absurd (omega (arith, le))
apart_order i w order_word le = absurd (omega (arith, le))
apart_order i w limit_word le = refl

pub ends_no_order : {ks : List Kind} → Ends 4 ks → sees "order" ks ≡ false
ends_no_order e = ends_no_word "order" apart_order e

apart_limit : (i : ℕ) (w : String) → IsClauseWord i w → 5 ≤ i → same_word (codes w) (codes "limit") ≡ false
unfolding same_word
apart_limit i w where_word le = absurd (omega (arith, le))
apart_limit i w having_word le = absurd (omega (arith, le))
apart_limit i w consolidate_word le = absurd (omega (arith, le))
apart_limit i w group_word le = absurd (omega (arith, le))
apart_limit i w order_word le = absurd (omega (arith, le))
apart_limit i w limit_word le = absurd (omega (arith, le))

pub ends_no_limit : {ks : List Kind} → Ends 5 ks → sees "limit" ks ≡ false
ends_no_limit e = ends_no_word "limit" apart_limit e

-- what begins with a clause's word ends what stands before
pub keyword_ends : (i : ℕ) (w : String) → IsClauseWord i w → (ks rest : List Kind) → Keyword free w ks rest → Ends i ks
keyword_ends i w c ks rest h = let here : i ≤ i = omega arith in rw h.1 (at_clause c here h.2)

-- a clause that may be left out ends what stands before it
pub optional_ends : {A : Type 0} (i : ℕ) (w : String) → IsClauseWord i w → (P : A → Part) → ((a : A) (ks rest : List Kind) → P a ks rest → Ends i ks) → (o : Option A) (ks rest : List Kind) → Ends (suc i) rest → Optional P o ks rest → Ends i ks
optional_ends i w c P begins None ks rest e h = rw h (ends_weaker i (omega arith) e)
optional_ends i w c P begins (Some a) ks rest e h = begins a ks rest h

pub clause_ends : {A : Type 0} (i : ℕ) (B Sep : Part) (P : A → Part) → ((ks rest : List Kind) → B ks rest → Ends i ks) → (xs : List A) (ks rest : List Kind) → Ends (suc i) rest → Clause B Sep P xs ks rest → Ends i ks
clause_ends i B Sep P begins [] ks rest e h = rw h (ends_weaker i (omega arith) e)
clause_ends i B Sep P begins (x ∷ xs) ks rest e h = begins ks h.0 h.1
