-- Lowered nodes: their forms, and how many there are for what a query is made of.
use Rattle.std.proofs.Common.{◌≡◌, ◌∙◌, ℕ, ◌+◌, List, [], ◌∷◌, ◌++◌, length, sym, ap, subst, arith}
use Rattle.std.specs.List.{All, sum_by}
use Rattle.std.proofs.lemmas.List.{length-append}
use Rattle.std.proofs.lemmas.List.Elements.{All-push}
use Rattle.std.proofs.lemmas.List.Sums.{sum_by-cons}
use Rattle.std.specs.declared.vec.Vec.{Vec}
use Rattle.std.specs.declared.alloc.Global.{Global}
use Rattle.aql_typed.specs.declared.tree.TypedExtract.{TypedExtract}
use Rattle.aql_typed.specs.declared.tree.TypedQuery.{TypedQuery}
use Rattle.aql_typed.specs.declared.tree.TypedQuery.TheVariants as query
use Rattle.aql_typed.specs.declared.tree.TypedSelect.{TypedSelect}
use Rattle.aql_typed.specs.declared.tree.TypedSource.{TypedSource}
use Rattle.aql_typed.specs.Nodes.{select_view, union_view}
use Rattle.aql_typed.specs.Trees.{Query, Queries, more_queries, Source, Sources, more_sources}
use Rattle.aql_typed.specs.Views.{query_of, source_of}
use Rattle.algebra.specs.declared.node.Node.{Node}
use Rattle.plan_maker.specs.Grounds.{sides_seen, sources_seen}
use Rattle.plan_maker.specs.Lowered.{IsLoweredForm, query_size, sides_size, source_size, sources_size}

-- one node more
module _ (old new : List Node) (node : Node) (put : new ≡ old ++ node ∷ []) where
  pub forms_push : IsLoweredForm node → All IsLoweredForm old → All IsLoweredForm new
  forms_push form olds = subst (All IsLoweredForm) (sym put) (All-push IsLoweredForm old node olds form)

  pub length_push : length new ≡ length old + 1
  length_push = omega (arith, ap length put, length-append old (node ∷ []))

-- queries that are made of a list
pub select_size : (typed : TypedQuery) (s : TypedSelect) (sources : List TypedSource) → typed ≡ query.Select s → sources ≡ s.sources.items → query_size (query_of typed) ≡ 1 + sources_size (sources_seen sources)
select_size typed s sources is seen =
    ap (λ (q : TypedQuery). query_size (query_of q)) is ∙ (ap query_size (select_view s) ∙ ap (λ (ss : List TypedSource). 1 + sources_size (sources_seen ss)) (sym seen))

pub extract_size : (typed : TypedQuery) (e : TypedExtract) → typed ≡ query.Extract e → query_size (query_of typed) ≡ 1 + source_size (source_of e.source)
extract_size typed e is = ap (λ (q : TypedQuery). query_size (query_of q)) is

pub union_size : (typed : TypedQuery) (v : Vec TypedQuery Global) (sides : List TypedQuery) → typed ≡ query.Union v → sides ≡ v.items → query_size (query_of typed) ≡ 1 + sides_size (sides_seen sides)
union_size typed v sides is seen =
    ap (λ (q : TypedQuery). query_size (query_of q)) is ∙ (ap query_size (union_view v) ∙ ap (λ (qs : List TypedQuery). 1 + sides_size (sides_seen qs)) (sym seen))

-- one element more
pub sources_more : (left rest : Sources) (source : Source) → left ≡ more_sources source rest → sources_size left ≡ source_size source + sources_size rest
sources_more left rest source are = ap sources_size are

pub sides_more : (left rest : Queries) (side : Query) → left ≡ more_queries side rest → sides_size left ≡ query_size side + sides_size rest
sides_more left rest side are = ap sides_size are

pub bodies_more : (left rest : List Query) (body : Query) → left ≡ body ∷ rest → sum_by query_size left ≡ query_size body + sum_by query_size rest
bodies_more left rest body are = ap (sum_by query_size) are ∙ sum_by-cons query_size body rest
