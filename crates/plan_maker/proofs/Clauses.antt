-- Selections and extractions, one node after another.
use Rattle.std.proofs.Common.{◌≡◌, ◌∙◌, ℕ, ℤ, Bool, ◌+◌, ◌<◌, ◌≤◌, List, [], ◌∷◌, ◌++◌, length, map, flat_map, refl, sym, ap, ap₂, subst, arith, Option, option_map, Bor}
use Rattle.std.specs.List.{All}
use Rattle.std.proofs.lemmas.List.{length-append, length-map}
use Rattle.std.proofs.lemmas.List.Elements.{All-nil, All-append, All-weaker}
use Rattle.std.proofs.lemmas.List.FromFn.{length-range_with_len}
use Rattle.std.specs.List.{range_with_len}
use Rattle.span_token.specs.Documents.{Doc}
use Rattle.scalar_ops.specs.declared.expr.Expr.{Expr}
use Rattle.scalar_ops.specs.Expressions.{Term, column, columns_of, ReadsBelow}
use Rattle.scalar_ops.specs.Tables.{Lists}
use Rattle.aql_typed.specs.declared.tree.SelectClauses as declared_select
use Rattle.aql_typed.specs.declared.tree.ExtractClauses as declared_extract
use Rattle.aql_typed.specs.Fitting.{projection_width, extract_width, found_width, searched_column, FitsExtraction}
use Rattle.aql_typed.specs.Meaning.{Rows, selected, kept, projected, cut, extracted_from, extracted, extract_rows}
use Rattle.aql_typed.specs.Trees.{Extraction, regex, token_regex, dict, blocks, ExtractClauses}
use Rattle.aql_typed.specs.Views.{consolidation_of, projection_of, select_clauses_of, extraction_of, extract_clauses_of}
use Rattle.algebra.specs.declared.node.Node.{Node}
use Rattle.algebra.specs.declared.node.Node.TheVariants.{Project, Blocks}
use Rattle.algebra.specs.ExtractionLaws.{columns_from, extracted-projected}
use Rattle.algebra.specs.Growth.{Stands}
use Rattle.algebra.specs.Nodes.{IsNode, IsPlan}
use Rattle.algebra.specs.Operators.{with_found}
use Rattle.algebra.specs.Shapes.{shapes_of}
use Rattle.plan_maker.specs.Grounds.{Gives, CanRead, AllRead, TargetFits, ColumnsFit, ClausesFit, KeysFit, ExtractFits, MatchesFit, SearchFits, IsSearched, terms_lent}
use Rattle.plan_maker.proofs.Giving.{gives-is, gives-width, gives-wide, valid-project, gives-project, gives-blocks}
use Rattle.plan_maker.proofs.Numbers.{columns_read}

-- ---- a selection

module _ (a : List Node) (i : ℕ) (clauses : declared_select.SelectClauses) where
  abbrev pub can_keep : CanRead a i (ClausesFit (select_clauses_of clauses)) → CanRead a i (TargetFits (option_map consolidation_of clauses.consolidate))
  can_keep can = record { width = can.width; rows = can.rows; gives = can.gives; wanted = can.wanted.0.target }

  module _ (b : List Node) (j : ℕ) (given : (can : CanRead a i (TargetFits (option_map consolidation_of clauses.consolidate)))
      → Gives b j can.width (λ lists doc. kept lists doc (option_map consolidation_of clauses.consolidate) (can.rows lists doc))) where
    abbrev pub can_project : CanRead a i (ClausesFit (select_clauses_of clauses)) → CanRead b j (ColumnsFit (projection_of clauses.projection))
    can_project can = record {
      width = can.width;
      rows = λ lists doc. kept lists doc (option_map consolidation_of clauses.consolidate) (can.rows lists doc);
      gives = given (can_keep can);
      wanted = (can.wanted.0.items, can.wanted.1.0);
    }

    module _ (d : List Node) (k : ℕ) (made : (can : CanRead b j (ColumnsFit (projection_of clauses.projection)))
        → Gives d k (projection_width (projection_of clauses.projection)) (λ lists doc. projected lists doc (projection_of clauses.projection) (can.rows lists doc)))
        (order : List ℕ) (seen : order ≡ clauses.order.items) where
      abbrev pub can_limit : CanRead a i (ClausesFit (select_clauses_of clauses)) → CanRead d k (KeysFit order)
      can_limit can = record {
        width = projection_width (projection_of clauses.projection);
        rows = λ lists doc. projected lists doc (projection_of clauses.projection) (kept lists doc (option_map consolidation_of clauses.consolidate) (can.rows lists doc));
        gives = made (can_project can);
        wanted = subst (λ (keys : List ℕ). KeysFit keys (projection_width (projection_of clauses.projection))) (sym seen) can.wanted.1.1;
      }

      pub shaped_gives : (new : List Node) (n : ℕ) → ((can : CanRead d k (KeysFit order)) → Gives new n can.width (λ lists doc. cut order clauses.limit (can.rows lists doc)))
          → (can : CanRead a i (ClausesFit (select_clauses_of clauses))) → Gives new n (projection_width (projection_of clauses.projection))
          (λ lists doc. cut clauses.order.items clauses.limit (projected lists doc (projection_of clauses.projection) (kept lists doc (option_map consolidation_of clauses.consolidate) (can.rows lists doc))))
      shaped_gives new n first can =
          subst (λ (keys : List ℕ). Gives new n (projection_width (projection_of clauses.projection))
          (λ lists doc. cut keys clauses.limit (projected lists doc (projection_of clauses.projection) (kept lists doc (option_map consolidation_of clauses.consolidate) (can.rows lists doc)))))
          seen (first (can_limit can))

-- ---- an extraction

module _ (a : List Node) (i : ℕ) (clauses : declared_extract.ExtractClauses) (b : List Node) (j : ℕ)
    (given : (can : CanRead a i (ExtractFits (extract_clauses_of clauses))) → Gives b j (extract_width (extract_clauses_of clauses)) (λ lists doc. extracted lists doc clauses.items (extraction_of clauses.extraction) (can.rows lists doc)))
    (conds : List (Bor Expr)) (are : terms_lent conds ≡ clauses.conds) where
  abbrev pub can_select : CanRead a i (ExtractFits (extract_clauses_of clauses)) → CanRead b j (AllRead (terms_lent conds))
  can_select can = record {
    width = extract_width (extract_clauses_of clauses);
    rows = λ lists doc. extracted lists doc clauses.items (extraction_of clauses.extraction) (can.rows lists doc);
    gives = given can;
    wanted = subst (All (ReadsBelow (extract_width (extract_clauses_of clauses)))) (sym are) can.wanted.1.conds;
  }

  module _ (d : List Node) (k : ℕ) (held : (can : CanRead b j (AllRead (terms_lent conds))) → Gives d k can.width (λ lists doc. selected lists doc (terms_lent conds) (can.rows lists doc))) where
    abbrev pub can_keep_found : CanRead a i (ExtractFits (extract_clauses_of clauses)) → CanRead d k (TargetFits (option_map consolidation_of clauses.consolidate))
    can_keep_found can = record {
      width = extract_width (extract_clauses_of clauses);
      rows = λ lists doc. selected lists doc (terms_lent conds) (extracted lists doc clauses.items (extraction_of clauses.extraction) (can.rows lists doc));
      gives = held (can_select can);
      wanted = can.wanted.1.target;
    }

    module _ (e : List Node) (l : ℕ) (stay : (can : CanRead d k (TargetFits (option_map consolidation_of clauses.consolidate)))
        → Gives e l can.width (λ lists doc. kept lists doc (option_map consolidation_of clauses.consolidate) (can.rows lists doc))) where
      abbrev pub can_limit_found : CanRead a i (ExtractFits (extract_clauses_of clauses)) → CanRead e l (KeysFit [])
      can_limit_found can = record {
        width = extract_width (extract_clauses_of clauses);
        rows = λ lists doc. kept lists doc (option_map consolidation_of clauses.consolidate) (selected lists doc (terms_lent conds) (extracted lists doc clauses.items (extraction_of clauses.extraction) (can.rows lists doc)));
        gives = stay (can_keep_found can);
        wanted = All-nil (λ key. key < extract_width (extract_clauses_of clauses));
      }

      pub extraction_gives : (new : List Node) (n : ℕ) → ((can : CanRead e l (KeysFit [])) → Gives new n can.width (λ lists doc. cut [] clauses.limit (can.rows lists doc)))
          → (can : CanRead a i (ExtractFits (extract_clauses_of clauses))) → Gives new n (extract_width (extract_clauses_of clauses)) (λ lists doc. extract_rows lists doc (extract_clauses_of clauses) (can.rows lists doc))
      extraction_gives new n first can =
          gives-is new n _ _ _
          (λ lists doc. ap (λ (cs : List Term). cut [] clauses.limit (kept lists doc (option_map consolidation_of clauses.consolidate)
          (selected lists doc cs (extracted lists doc clauses.items (extraction_of clauses.extraction) (can.rows lists doc))))) are)
          (first (can_limit_found can))

-- ---- what is extracted

one_by_one : (lists : Lists) (doc : Doc) (items : List Term) (e : Extraction) → IsSearched e → (rows : Rows) → flat_map (extracted_from lists doc items e) rows ≡ extracted lists doc items e rows
one_by_one lists doc items (regex col p groups) is rows = refl
one_by_one lists doc items (token_regex col low high p groups) is rows = refl
one_by_one lists doc items (dict col d) is rows = refl
one_by_one lists doc items (blocks col low high from to tokens) is rows = absurd is

module _ (a : List Node) (i : ℕ) (clauses : ExtractClauses) where
  pub blocks_gives : (col low high : ℕ) (from upto first last : ℤ) (tokens : Bool) → clauses.extraction ≡ blocks col low high from upto tokens → (new : List Node) (n : ℕ) → Stands a new n (Blocks i col low high first last tokens)
      → first ≡ from → last ≡ upto → (can : CanRead a i (ExtractFits clauses)) → Gives new n (extract_width clauses) (λ lists doc. extracted lists doc clauses.items clauses.extraction (can.rows lists doc))
  blocks_gives col low high from upto first last tokens is new n stands one other can =
      let none : clauses.items ≡ [] = subst (FitsExtraction clauses) is can.wanted.0 in
      let same : clauses.extraction ≡ blocks col low high first last tokens = is ∙ ap₂ (λ (f t : ℤ). blocks col low high f t tokens) (sym one) (sym other) in
      gives-width new n 1 (extract_width clauses) _ (omega (arith, ap length none, ap found_width is))
      (gives-is new n 1 _ (λ lists doc. extracted lists doc clauses.items clauses.extraction (can.rows lists doc))
      (λ lists doc. ap (λ (e : Extraction). extracted lists doc clauses.items e (can.rows lists doc)) (sym same))
      (gives-blocks a i can.width can.rows can.gives col low high first last tokens new n stands))

  pub each_gives : (FitsExtraction clauses clauses.extraction → IsSearched clauses.extraction) → (new : List Node) (n : ℕ)
      → ((can : CanRead a i (MatchesFit clauses)) → Gives new n (extract_width clauses) (λ lists doc. flat_map (extracted_from lists doc clauses.items clauses.extraction) (can.rows lists doc)))
      → (can : CanRead a i (ExtractFits clauses)) → Gives new n (extract_width clauses) (λ lists doc. extracted lists doc clauses.items clauses.extraction (can.rows lists doc))
  each_gives searched new n made can =
      gives-is new n _ _ (λ lists doc. extracted lists doc clauses.items clauses.extraction (can.rows lists doc))
      (λ lists doc. one_by_one lists doc clauses.items clauses.extraction (searched can.wanted.0) (can.rows lists doc))
      (made (record { width = can.width; rows = can.rows; gives = can.gives; wanted = (searched can.wanted.0, can.wanted.1) }))

  abbrev pub can_search : CanRead a i (MatchesFit clauses) → CanRead a i (SearchFits clauses.extraction)
  can_search can = record { width = can.width; rows = can.rows; gives = can.gives; wanted = (can.wanted.0, can.wanted.1.column) }

  module _ (b : List Node) (j : ℕ) (given : (can : CanRead a i (SearchFits clauses.extraction)) → Gives b j (can.width + found_width clauses.extraction) (λ lists doc. with_found lists doc clauses.extraction (can.rows lists doc)))
      (can : CanRead a i (MatchesFit clauses)) (items : List Term) (are : items ≡ clauses.items ++ columns_from can.width (found_width clauses.extraction)) where
    abbrev count : ℕ
    count = found_width clauses.extraction

    wider : (t : Term) → ReadsBelow can.width t → ReadsBelow (can.width + count) t
    wider t reads = All-weaker (λ k. k < can.width) (λ k. k < can.width + count) (λ k h. omega (arith, h)) (columns_of t) reads

    pub found_valid : IsNode (shapes_of b) (Project j items)
    found_valid =
        valid-project b j _ _ (given (can_search can)) items (clauses.items ++ columns_from can.width count) are
        (All-append (ReadsBelow (can.width + count)) clauses.items (columns_from can.width count)
        (All-weaker (ReadsBelow can.width) (ReadsBelow (can.width + count)) wider clauses.items can.wanted.1.items)
        (columns_read can.width count (can.width + count) (omega arith)))

    pub found_gives : IsPlan a → (new : List Node) (n : ℕ) → Stands b new n (Project j items) → Gives new n (extract_width clauses) (λ lists doc. flat_map (extracted_from lists doc clauses.items clauses.extraction) (can.rows lists doc))
    found_gives plan new n stands =
        let long : length (clauses.items ++ columns_from can.width count) ≡ extract_width clauses =
        omega (arith, length-append clauses.items (columns_from can.width count), length-map (range_with_len can.width count) column, length-range_with_len can.width count) in
        gives-width new n _ (extract_width clauses) _ long
        (gives-is new n _ _ _
        (λ lists doc. sym (extracted-projected lists doc clauses.items clauses.extraction can.width can.wanted.1.items (can.rows lists doc) (gives-wide a i can.width can.rows plan can.gives lists doc)))
        (gives-project b j _ _ (given (can_search can)) items (clauses.items ++ columns_from can.width count) are new n stands))
