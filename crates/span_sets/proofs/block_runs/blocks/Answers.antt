use Rattle.std.proofs.Common.{List, map, subst}
use Rattle.std.proofs.lemmas.Int.{to_z-of_z}
use Rattle.span_token.specs.Extents.{Extent, extent_of}
use Rattle.span_token.specs.declared.span.Span.{Span}
use Rattle.span_sets.specs.Blocks.{IsNeighbour, AreBlocksOf, is_neighbour}
use Rattle.span_sets.specs.LawProofs.BlockLaws.{AreBlocks-unique, AreBlocks-SameBag}
use Rattle.span_sets.specs.LawProofs.BlockTests.{is_neighbour-decides, AreBlocks-only}
use Rattle.span_sets.proofs.block_runs.blocks.Goals as goal

pub returns-clause-blocks : goal.returns-clause-blocks
returns-clause-blocks c =
    let low = c.ranges.gap_low in
    let high = c.ranges.gap_high in
    let found = simp to_z-of_z at c.in_ok-found.ensures.blocks in
    record {
      distinct = map extent_of c.distinct-spans.result.items;
      are_distinct = c.distinct-spans.ensures.distinct;
      are_blocks = subst (λ (xs : List Span). AreBlocksOf (IsNeighbour c.args.doc.now c.args.tokens c.args.gap_low c.args.gap_high) c.args.low c.args.high (map extent_of xs) (map extent_of c.in_ok-found.found.items)) c.as_slice.ensures.value found;
    }

pub returns-clause-list : goal.returns-clause-list
returns-clause-list c =
    let doc = c.args.doc.now in
    AreBlocks-only (is_neighbour doc c.args.tokens c.args.gap_low c.args.gap_high) (IsNeighbour doc c.args.tokens c.args.gap_low c.args.gap_high) (is_neighbour-decides doc c.args.tokens c.args.gap_low c.args.gap_high) c.args.low c.args.high
    (map extent_of c.args.spans.items) (map extent_of c.in_ok-found.found.items) (returns-clause-blocks c)

pub returns-clause-only : goal.returns-clause-only
returns-clause-only c = λ same other bag is.
    let IsNext : Extent → Extent → Type 0 = IsNeighbour c.args.doc.now c.args.tokens c.args.gap_low c.args.gap_high in
    let given : List Extent = map extent_of c.args.spans.items in
    AreBlocks-unique IsNext c.args.low c.args.high given other (map extent_of c.in_ok-found.found.items) (AreBlocks-SameBag IsNext c.args.low c.args.high same given other bag is) (returns-clause-blocks c)
