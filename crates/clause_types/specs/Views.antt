-- How definitions see what the code keeps of parts without a fault.
use Rattle.std.specs.Prelude.{[], map}
use Rattle.scalar_ops.specs.Views.{term_of}
use Rattle.clause_types.specs.declared.given.Given.{Given}
use Rattle.clause_types.specs.declared.given.Meant as declared_meant
use Rattle.clause_types.specs.declared.given.Meant.TheVariants as meant
use Rattle.clause_types.specs.declared.scope.Visible as declared_visible
use Rattle.clause_types.specs.declared.scope.SourceColumns as declared_source_columns
use Rattle.clause_types.specs.declared.scope.Numbered as declared_numbered
use Rattle.clause_types.specs.declared.scope.Names as declared_names
use Rattle.clause_types.specs.declared.scope.Names.TheVariants as stands
use Rattle.clause_types.specs.declared.scope.Scope as declared_scope
use Rattle.aql_syntax.specs.Views.{name_of}
use Rattle.clause_types.specs.declared.item.CheckedItem.{CheckedItem}
use Rattle.clause_types.specs.declared.label.Label.{Label}
use Rattle.aql_syntax.specs.Trees.{Name}
use Rattle.clause_types.specs.declared.item.Content as declared_content
use Rattle.clause_types.specs.declared.item.Content.TheVariants as content
use Rattle.clause_types.specs.Typings.{Meant, value, pattern, Typing, Content, expression, row_count, aggregated, ItemTyping}
use Rattle.clause_types.specs.Scopes.{Visible, SourceColumns, Numbered, Names, no_names, names_of_items, names_of_columns, Scope}

abbrev pub meant_of : declared_meant.Meant → Meant
meant_of (meant.Value expr) = value (term_of expr)
meant_of (meant.Pattern text) = pattern text

abbrev pub seen : Given → Typing
seen given = record { at = given.at; faults = []; kind = given.kind; meant = meant_of given.meant }

abbrev pub visible_of : declared_visible.Visible → Visible
visible_of source = record { alias = source.alias.now; columns = source.columns.now }

abbrev pub source_columns_of : declared_source_columns.SourceColumns → SourceColumns
source_columns_of source = record { start = source.start; columns = source.columns.now }

abbrev pub numbered_of : declared_numbered.Numbered → Numbered
numbered_of found = record { number = found.number; kind = found.kind }

abbrev pub content_of : declared_content.Content → Content
content_of (content.Expression meant) = expression (meant_of meant)
content_of content.RowCount = row_count
content_of (content.Aggregated a meant) = aggregated a (meant_of meant)

abbrev pub item_seen : CheckedItem → ItemTyping
item_seen item = record { at = item.at; name = name_of item.name; faults = []; kind = item.kind; content = content_of item.content }

abbrev pub names_seen : declared_names.Names → Names
names_seen stands.Nothing = no_names
names_seen (stands.OfItems items) = names_of_items (map item_seen items.now)
names_seen (stands.OfColumns columns) = names_of_columns columns.now

abbrev pub scope_of : declared_scope.Scope → Scope
scope_of scope = record { sources = map visible_of scope.sources.now; names = names_seen scope.names }

abbrev pub label_of : Label → Name
label_of label = record { text = label.text.now; at = label.at }
