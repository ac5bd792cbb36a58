-- Names in the order of their bytes. Only private clauses cite this.
use Rattle.std.specs.Prelude.{ℕ, List, [], fold}
use Rattle.std.specs.List.{enumerate_from}
use Rattle.std.specs.BTreeMap.{insert_entry}
use Rattle.std.specs.Ordering.{nat_cmp}
use Rattle.std.specs.Cmp.Lexicographic.{slice_cmp}
use denote.Ref.{Bor}
use Rattle.corpus_json.specs.declared.write.member.Column.{Column}
use Rattle.corpus_json.specs.declared.write.order.Named.{Named}

-- a name and its index among the names that were given, from 0
abbrev pub NameIndex : Type 0
NameIndex = List ℕ × ℕ

abbrev pub name_index : Named → NameIndex
name_index named = (named.name.now, named.index)

abbrev pub column_index : Column → NameIndex
column_index column = (column.key.name.now, column.index)

abbrev pub entry_index : Bor (List ℕ) × ℕ → NameIndex
entry_index entry = (entry.0.now, entry.1)

abbrev pub put_index : List NameIndex → ℕ × List ℕ → List NameIndex
put_index indexes (index, name) = insert_entry (slice_cmp nat_cmp) indexes name index

-- the names in the order of their bytes, each with its index; of equal names there is one, with the last index
unfoldable pub name_indexes : List (List ℕ) → List NameIndex
name_indexes names = fold put_index [] (enumerate_from 0 names)
