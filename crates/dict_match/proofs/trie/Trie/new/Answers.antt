use Rattle.std.proofs.Common.{List, [], ◌∷◌, ◌++◌, ap, ap₂, ◌∙◌, string_bytes}
use Rattle.std.specs.Map.{lookup}
use Rattle.std.specs.Str.{bytes_eq}
use Rattle.dict_match.specs.declared.trie.End.{End}
use Rattle.dict_match.specs.Tries.{is_same_edge}
use Rattle.dict_match.proofs.TrieLemmas.{Reaches-nothing}
use Rattle.dict_match.proofs.trie.Trie.new.Goals as goal

pub returns : goal.returns
returns c = Reaches-nothing _
    (λ cs. ap (λ es. lookup (λ k. bytes_eq cs (string_bytes k)) es) c.new-2.ensures.empty)
    (λ node word. ap (λ es. lookup (is_same_edge (node, word)) es) c.new-3.ensures.empty)
    (c.in_ok-push.ensures.items ∙ ap₂ (λ (es : List (List End)) (e : List End). es ++ e ∷ []) c.new-ends.ensures.items c.new.ensures)
