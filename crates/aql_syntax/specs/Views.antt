-- How definitions see the tree of `src/tree.rt`: `statement_of` and its parts.
use Rattle.std.specs.Prelude.{ℕ, Option, map, option_map}
use Rattle.aql_syntax.specs.declared.tree.Ident.{Ident}
use Rattle.aql_syntax.specs.declared.tree.Number as declared_number
use Rattle.aql_syntax.specs.declared.tree.Item as declared_item
use Rattle.aql_syntax.specs.declared.tree.Cons as declared_cons
use Rattle.aql_syntax.specs.declared.tree.Ast.{Ast}
use Rattle.aql_syntax.specs.declared.tree.Form.{Form, Row_of-Ast, end_of-Ast, more_of-Ast}
use Rattle.aql_syntax.specs.declared.tree.Form.TheVariants as form
use Rattle.aql_syntax.specs.declared.tree.Range as declared_range
use Rattle.aql_syntax.specs.declared.tree.Range.TheVariants as range
use Rattle.aql_syntax.specs.declared.tree.Flag as declared_flag
use Rattle.aql_syntax.specs.declared.tree.Flag.TheVariants as flag
use Rattle.aql_syntax.specs.declared.tree.Spec as declared_spec
use Rattle.aql_syntax.specs.declared.tree.Spec.TheVariants as spec
use Rattle.aql_syntax.specs.declared.tree.Query as declared_query
use Rattle.aql_syntax.specs.declared.tree.Query.{Row_of-Query, end_of-Query, more_of-Query}
use Rattle.aql_syntax.specs.declared.tree.Query.TheVariants as query
use Rattle.aql_syntax.specs.declared.tree.Extract.{Extract}
use Rattle.aql_syntax.specs.declared.tree.Select.{Select, Row_of-FromPart, end_of-FromPart, more_of-FromPart}
use Rattle.aql_syntax.specs.declared.tree.FromPart.{FromPart}
use Rattle.aql_syntax.specs.declared.tree.FromPart.TheVariants as part
use Rattle.aql_syntax.specs.declared.tree.Statement as declared_statement
use Rattle.aql_syntax.specs.declared.tree.Statement.TheVariants as statement
use Rattle.aql_syntax.specs.Trees.{Name, Number, Term, int, str, regex, column, bare, call, star, Terms, no_terms, more_terms, Item, Cons, Clauses, Tail, Range, one, two, Group, Flag, exact, ignore_case, Spec, pattern, dict, blocks, Query, select, extract, union, minus, Queries, no_queries, more_queries, Source, view, nested, Sources, no_sources, more_sources, Statement, module_, require, export, dictionary, create, output}

abbrev pub name_of : Ident → Name
name_of name = record { text = name.text; at = name.at }

abbrev pub number_of : declared_number.Number → Number
number_of number = record { value = number.value; at = number.at }

-- an expression with its form, at the place `at`
abbrev mutual
  pub term_at : ℕ → Form → Term
  term_at at (form.Int value) = int at value
  term_at at (form.Str text) = str at text
  term_at at (form.Regex text) = regex at text
  term_at at (form.Column alias name) = column at (name_of alias) (name_of name)
  term_at at (form.Bare name) = bare at (name_of name)
  term_at at (form.Call' name shape args) = call at name (terms_of args)
  term_at at (form.Star name) = star at name

  pub terms_of : {n : _} → Row_of-Ast n → Terms
  terms_of end_of-Ast = no_terms
  terms_of (more_of-Ast at form rest) = more_terms (term_at at form) (terms_of rest)

abbrev pub term_of : Ast → Term
term_of ast = term_at ast.at ast.form

abbrev pub item_of : declared_item.Item → Item
item_of item = record { expr = term_of item.expr; name = option_map name_of item.name }

abbrev pub cons_of : declared_cons.Cons → Cons
cons_of cons = record { target = term_of cons.target; policy = option_map name_of cons.policy }

abbrev pub range_of : declared_range.Range → Range
range_of (range.One number) = one (number_of number)
range_of (range.Two low high) = two (number_of low) (number_of high)

abbrev pub flag_of : declared_flag.Flag → Flag
flag_of flag.Exact = exact
flag_of flag.IgnoreCase = ignore_case

abbrev pub group_of : Option declared_number.Number × Ident → Group
group_of group = record { number = option_map number_of group.0; name = name_of group.1 }

abbrev pub spec_of : declared_spec.Spec → Spec
spec_of (spec.Regex text bound on groups) =
    pattern (name_of text) (option_map range_of bound) (name_of on.0) (name_of on.1) (map group_of groups.items)
spec_of (spec.Dict name flag on out) =
    dict (name_of name) (option_map flag_of flag) (name_of on.0) (name_of on.1) (name_of out)
spec_of (spec.Blocks count gap tokens on out) =
    blocks (range_of count) (range_of gap) tokens (name_of on.0) (name_of on.1) (name_of out)

abbrev pub clauses_of : Select → Clauses
clauses_of query = record {
  conds = map term_of query.conds.items;
  cons = option_map cons_of query.cons;
  group = map term_of query.group.items;
  order = map term_of query.order.items;
  limit = option_map number_of query.limit;
}

abbrev pub tail_of : Extract → Tail
tail_of query = record {
  conds = map term_of query.conds.items;
  cons = option_map cons_of query.cons;
  limit = option_map number_of query.limit;
}

abbrev mutual
  pub query_of : declared_query.Query → Query
  query_of (query.Select' at items shape sources conds cons group order limit) =
      select at (map item_of items.items) (sources_of sources) (record {
        conds = map term_of conds.items;
        cons = option_map cons_of cons;
        group = map term_of group.items;
        order = map term_of order.items;
        limit = option_map number_of limit;
      })
  query_of (query.Extract' at items spec source conds cons limit) =
      extract at (map item_of items.items) (spec_of spec) (source_of source) (record {
        conds = map term_of conds.items;
        cons = option_map cons_of cons;
        limit = option_map number_of limit;
      })
  query_of (query.Union' shape sides) = union (queries_of sides)
  query_of (query.Minus' left_box left right_box right) = minus (query_of left) (query_of right)

  pub queries_of : {n : _} → Row_of-Query n → Queries
  queries_of end_of-Query = no_queries
  queries_of (more_of-Query side rest) = more_queries (query_of side) (queries_of rest)

  pub source_of : FromPart → Source
  source_of (part.View name alias) = view (name_of name) (option_map name_of alias)
  source_of (part.Nested' box query alias) = nested (query_of query) (name_of alias)

  pub sources_of : {n : _} → Row_of-FromPart n → Sources
  sources_of end_of-FromPart = no_sources
  sources_of (more_of-FromPart source rest) = more_sources (source_of source) (sources_of rest)

abbrev pub statement_of : declared_statement.Statement → Statement
statement_of (statement.Module name) = module_ (name_of name)
statement_of statement.Require = require
statement_of (statement.Export name) = export (name_of name)
statement_of (statement.Dictionary name entries) = dictionary (name_of name) entries.items
statement_of (statement.View name query) = create (name_of name) (query_of query)
statement_of (statement.Output name alias) = output (name_of name) alias
