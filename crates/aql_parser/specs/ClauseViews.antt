-- How definitions see the clauses that the parser has read.
use Rattle.std.specs.Prelude.{map, option_map}
use Rattle.aql_syntax.specs.Trees.{Clauses, Tail}
use Rattle.aql_syntax.specs.Views.{number_of, term_of, cons_of}
use Rattle.aql_parser.specs.declared.clauses.SelectClauses.{SelectClauses}
use Rattle.aql_parser.specs.declared.clauses.ExtractTail.{ExtractTail}

abbrev pub select_clauses : SelectClauses → Clauses
select_clauses clauses = record {
  conds = map term_of clauses.conds.items;
  cons = option_map cons_of clauses.cons;
  group = map term_of clauses.group.items;
  order = map term_of clauses.order.items;
  limit = option_map number_of clauses.limit;
}

abbrev pub extract_tail : ExtractTail → Tail
extract_tail tail = record {
  conds = map term_of tail.conds.items;
  cons = option_map cons_of tail.cons;
  limit = option_map number_of tail.limit;
}
