-- What is told of a node by its kind, and where conditions and projections may stand above it.
use Rattle.std.proofs.Common.{◌≡◌, ◌∙◌, ℕ, ◌+◌, ◌<◌, Bool, List, [], ◌∷◌, ◌++◌, map, length, take, get_or, refl, sym, ap, ap₂, subst, arith, Option, Some, None}
use Rattle.std.proofs.lemmas.List.{map-append, take_more, length-map, get_or-map}
use Rattle.std.specs.declared.vec.Vec.{Vec}
use Rattle.std.specs.declared.alloc.Global.{Global}
use Rattle.scalar_ops.specs.declared.expr.Expr.{Expr}
use Rattle.scalar_ops.specs.Expressions.{Term, column, number, string, call}
use Rattle.scalar_ops.specs.Views.{term_of}
use Rattle.algebra.specs.declared.node.JoinKind.{JoinKind}
use Rattle.algebra.specs.declared.node.Node.{Node}
use Rattle.algebra.specs.declared.node.Node.TheVariants.{Project, Cross, SpanJoin, Union}
use Rattle.push_select.specs.declared.below.Below.{Below}
use Rattle.push_select.specs.declared.below.Below.TheVariants as below
use Rattle.push_select.specs.Joins.{column_of}
use Rattle.push_select.specs.Replacing.{IsBelow}
use Rattle.push_select.specs.Pushed.{ShowsColumns}

-- nothing is told of a projection of other items
pub below-items : (node : Node) (input : ℕ) (items : List Term) → node ≡ Project input items → ((shown : List ℕ) → items ≡ map column shown → ⊥) → IsBelow node below.Other
below-items node input items is other = subst (λ (x : Node). IsBelow x below.Other) (sym is) (λ nodes conds shows. other shows.0 shows.1, λ shows. other shows.0 shows.1)

-- nor of a node of another kind
pub below-other : (node : Node) → ((l r : ℕ) (c : Bool) → node ≡ Cross l r c → ⊥) → ((l r : ℕ) (k : JoinKind) (lc rc : ℕ) (c : Bool) → node ≡ SpanJoin l r k lc rc c → ⊥)
    → ((l r : ℕ) → node ≡ Union l r → ⊥) → ((i : ℕ) (items : List Term) → node ≡ Project i items → ⊥) → IsBelow node below.Other
below-other (Cross l r c) cross join both project = absurd (cross l r c refl)
below-other (SpanJoin l r k lc rc c) cross join both project = absurd (join l r k lc rc c refl)
below-other (Union l r) cross join both project = absurd (both l r refl)
below-other (Project i items) cross join both project = absurd (project i items refl)
below-other node cross join both project = (λ nodes conds. tt, λ shows. shows)

-- a node of which no columns are told is no projection of plain columns
pub shows-none : (node : Node) (b : Below) → IsBelow node b → ((i : ℕ) (shown : Vec ℕ Global) → b ≡ below.Columns i shown → ⊥) → ShowsColumns (Some node) → ⊥
shows-none node (below.Product pair) is other shows = subst (λ (x : Node). ShowsColumns (Some x)) is shows
shows-none node (below.Joined pair join) is other shows = subst (λ (x : Node). ShowsColumns (Some x)) is shows
shows-none node (below.Both l r) is other shows = subst (λ (x : Node). ShowsColumns (Some x)) is shows
shows-none node (below.Columns i shown) is other shows = other i shown refl
shows-none node below.Other is other shows = is.1 shows

-- ---- which items are columns

some_number : (a b : ℕ) → Some a ≡ Some b → a ≡ b
some_number a b e = cc

some_none : (a : ℕ) → Some a ≡ None → ⊥
some_none a e = cc

column_told : (t : Term) (n : ℕ) → Some n ≡ column_of t → t ≡ column n
column_told (column m) n is = ap column (sym (some_number n m is))
column_told (number m) n is = absurd (some_none n is)
column_told (string m) n is = absurd (some_none n is)
column_told (call o args) n is = absurd (some_none n is)

-- one item more that is a column
pub columns-more : (items : List Expr) (i : ℕ) (item : Expr) (before after : List ℕ) (n : ℕ) → i < length items → item ≡ get_or items i item → map term_of (take i items) ≡ map column before
    → after ≡ before ++ n ∷ [] → Some n ≡ column_of (term_of item) → map term_of (take (i + 1) items) ≡ map column after
columns-more items i item before after n below is so_far put told =
    ap (λ (es : List Expr). map term_of es) (take_more items i item below ∙ ap (λ (e : Expr). take i items ++ e ∷ []) (sym is))
    ∙ (map-append term_of (take i items) (item ∷ [])
    ∙ (ap₂ (λ (ts : List Term) (t : Term). ts ++ t ∷ []) so_far (column_told (term_of item) n told)
    ∙ (sym (map-append column before (n ∷ [])) ∙ ap (map column) (sym put))))

-- one that isn't
pub columns-none : (items : List Expr) (i : ℕ) (item : Expr) → i < length items → item ≡ get_or items i item → None ≡ column_of (term_of item)
    → (shown : List ℕ) → map term_of items ≡ map column shown → ⊥
columns-none items i item below is none shown are =
    let long : length items ≡ length shown = sym (length-map items term_of) ∙ (ap length are ∙ length-map shown column) in
    let here : term_of item ≡ column (get_or shown i 0) =
    ap term_of is ∙ (sym (get_or-map term_of items i item (term_of item) below)
    ∙ (ap (λ (ts : List Term). get_or ts i (term_of item)) are ∙ get_or-map column shown i 0 (term_of item) (omega (arith, below, long)))) in
    some_none (get_or shown i 0) (sym (none ∙ ap column_of here))

pub none_of : (found sought : Option ℕ) → ((n : ℕ) → found ≡ Some n → ⊥) → found ≡ sought → None ≡ sought
none_of None sought lacks is = is
none_of (Some n) sought lacks is = absurd (lacks n refl)
