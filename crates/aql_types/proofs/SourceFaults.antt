-- Sources and sides without a fault.
use Rattle.std.proofs.Common.{◌≡◌, List, [], ◌∷◌, ◌++◌, map, refl, ap}
use Rattle.clause_types.specs.declared.fault.Breach.{Breach}
use Rattle.aql_types.specs.declared.source.CheckedSource.{CheckedSource}
use Rattle.aql_types.specs.declared.source.CheckedQuery.{CheckedQuery}
use Rattle.aql_types.specs.Queries.{faults_of_sides, mismatch, minus_of, minus_with}
use Rattle.aql_types.specs.QueryTypings.{faults_of_sources}
use Rattle.aql_types.specs.Sources.{source_seen, query_seen}

pub sources_faultless : (sources : List CheckedSource) → faults_of_sources (map source_seen sources) ≡ []
sources_faultless [] = refl
sources_faultless (source ∷ sources) = sources_faultless sources

pub sides_faultless : (sides : List CheckedQuery) → faults_of_sides (map query_seen sides) ≡ []
sides_faultless [] = refl
sides_faultless (side ∷ sides) = sides_faultless sides

-- a difference of sides that have no fault and equal columns
pub minus_is : (left right : CheckedQuery) → mismatch (query_seen left) (query_seen right) ≡ []
    → minus_of (query_seen left) (query_seen right) ≡ minus_with (query_seen left) (query_seen right)
minus_is left right same =
    let whole = minus_with (query_seen left) (query_seen right) in
    ap (λ (fs : List Breach). record { at = whole.at; faults = fs ++ []; columns = whole.columns; body = whole.body }) same
