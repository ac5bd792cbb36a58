-- The lists of a tree's own kinds as lists, and back.
use Rattle.std.proofs.Common.{◌≡◌, List, [], ◌∷◌, refl, ap}
use Rattle.aql_syntax.specs.Trees.{Term, Terms, no_terms, more_terms, as_terms, Query, Queries, no_queries, more_queries, as_queries, Source, Sources, no_sources, more_sources, as_sources}

-- the arguments of a call
abbrev pub terms_in : Terms → List Term
terms_in no_terms = []
terms_in (more_terms t ts) = t ∷ terms_in ts

-- the sides of a union
abbrev pub queries_in : Queries → List Query
queries_in no_queries = []
queries_in (more_queries q qs) = q ∷ queries_in qs

-- the sources of a selection
abbrev pub sources_in : Sources → List Source
sources_in no_sources = []
sources_in (more_sources s ss) = s ∷ sources_in ss

pub terms_in-as_terms : (ts : List Term) → terms_in (as_terms ts) ≡ ts
terms_in-as_terms [] = refl
terms_in-as_terms (t ∷ ts) = ap (λ rest. t ∷ rest) (terms_in-as_terms ts)

pub as_terms-terms_in : (ts : Terms) → as_terms (terms_in ts) ≡ ts
as_terms-terms_in no_terms = refl
as_terms-terms_in (more_terms t ts) = ap (more_terms t) (as_terms-terms_in ts)

pub queries_in-as_queries : (qs : List Query) → queries_in (as_queries qs) ≡ qs
queries_in-as_queries [] = refl
queries_in-as_queries (q ∷ qs) = ap (λ rest. q ∷ rest) (queries_in-as_queries qs)

pub as_queries-queries_in : (qs : Queries) → as_queries (queries_in qs) ≡ qs
as_queries-queries_in no_queries = refl
as_queries-queries_in (more_queries q qs) = ap (more_queries q) (as_queries-queries_in qs)

pub sources_in-as_sources : (ss : List Source) → sources_in (as_sources ss) ≡ ss
sources_in-as_sources [] = refl
sources_in-as_sources (s ∷ ss) = ap (λ rest. s ∷ rest) (sources_in-as_sources ss)

pub as_sources-sources_in : (ss : Sources) → as_sources (sources_in ss) ≡ ss
as_sources-sources_in no_sources = refl
as_sources-sources_in (more_sources s ss) = ap (more_sources s) (as_sources-sources_in ss)
