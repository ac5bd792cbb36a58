use Rattle.std.proofs.Common.{◌≡◌, take}
use Rattle.dict_match.specs.Dictionaries.{texts_of}
use Rattle.dict_match.proofs.trie.spelled_out.Given as goal

abbrev pub invariant-loop-i : goal.invariant-loop-i
invariant-loop-i l = l.texts ≡ take l.i (texts_of l.tokens.doc l.tokens.tokens)
