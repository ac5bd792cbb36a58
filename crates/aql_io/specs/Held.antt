-- What contracts see of files in memory.
use Rattle.std.specs.Option.{option_map}
use Rattle.std.specs.BTreeMap.{get_by_text}
use Rattle.aql_io.specs.declared.mem_files.MemFiles.{MemFiles}
use Rattle.aql_io.specs.Bytes.{Names}
use Rattle.aql_io.specs.InMemory.{CallLog}

-- the bytes of each name that is held
abbrev pub names_in : MemFiles → Names
names_in f = λ name. option_map (λ bytes. bytes.items) (get_by_text f.files name)

-- the calls that were made
abbrev pub calls_on : MemFiles → CallLog
calls_on f = f.calls
