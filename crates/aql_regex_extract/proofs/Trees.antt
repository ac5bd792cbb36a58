-- The tree of a text against what the `regex` crate says of an expression that it built, or refused to build.
use Rattle.std.proofs.Common.{◌≡◌, ◌≢◌, ◌⊎◌, inl, inr, ℕ, ◌-◌, ◌<◌, ◌≤◌, List, length, Option, Some, None, IsSomeAnd, refl, ap, sym, subst, arith, IfSome}
use Rattle.std.proofs.lemmas.Bool.Decides.{nat_tests}
use Rattle.std.specs.Str.{chars}
use Rattle.regex.specs.Patterns.{Re, SameCaptures, Config, default_config, Reads, Refuses}
use Rattle.regex.specs.Names.{names_of}
use Rattle.regex.specs.Strings.{regex_source, regex_config, regex_pattern, regex_names, IsReadFromSource}
use Rattle.regex.specs.declared.string.regex.Regex.{Regex}
use Rattle.regex_hir.specs.declared.hir.Hir.{Hir}
use Rattle.regex_hir.specs.Meaning.{meaning}
use Rattle.regex_syntax.specs.Brackets.{Nested}
use Rattle.regex_syntax.specs.Grammar.{Names, group_count, read}
use Rattle.regex_syntax.specs.declared.error.ErrorKind.{ErrorKind}
use Rattle.regex_syntax.specs.declared.error.ErrorKind.TheVariants.{OutOfMemory, NestLimitExceeded}
use Rattle.aql_regex_extract.specs.Patterns.{tree_of, tree_within, group_count_of, groups_within}
use Rattle.aql_regex_extract.specs.Views.{IsBuiltFrom, Finds}

found_tree : (hir : Hir) (names : Names) (o : Option (Nested Re × Names)) →
    IsSomeAnd o (λ (re, got). (re.depth ≤ 250) × SameCaptures (meaning hir) re.value × (names ≡ got) × (group_count (meaning hir) ≤ length names)) →
    (tree : Re) × (tree_within o ≡ Some tree) × SameCaptures (meaning hir) tree
found_tree hir names None h = absurd h
found_tree hir names (Some x) h = (x.0.value, grind (arith, nat_tests, h.0), h.1)

-- the tree of a text from which an expression was read, which finds what the expression finds
pub tree_of-Reads : (text : List ℕ) (hir : Hir) (names : Names) → Reads default_config text hir names →
    (tree : Re) × (tree_of text ≡ Some tree) × SameCaptures (meaning hir) tree
unfolding Reads tree_of
tree_of-Reads text hir names h = found_tree hir names (read default_config (chars text)) h

-- the tree that was read finds what the text stands for
pub Finds-Reads : (text : List ℕ) (hir : Hir) (names : Names) → Reads default_config text hir names → Finds (meaning hir) text
Finds-Reads text hir names h =
    let tree = tree_of-Reads text hir names h in
    subst (λ (o : Option Re). IsSomeAnd o (SameCaptures (meaning hir))) (sym tree.1) tree.2

found_groups : (hir : Hir) (names : Names) (o : Option (Nested Re × Names)) →
    IsSomeAnd o (λ (re, got). (re.depth ≤ 250) × SameCaptures (meaning hir) re.value × (names ≡ got) × (group_count (meaning hir) ≤ length names)) →
    groups_within o ≡ length names - 1
found_groups hir names None h = absurd h
found_groups hir names (Some x) h = sym (ap (λ (l : Names). length l - 1) h.2)

pub group_count_of-Reads : (text : List ℕ) (hir : Hir) (names : Names) → Reads default_config text hir names →
    group_count_of text ≡ length names - 1
unfolding Reads group_count_of
group_count_of-Reads text hir names h = found_groups hir names (read default_config (chars text)) h

-- the same of an expression
pub tree_of-regex : (r : Regex) (text : List ℕ) → regex_source r ≡ text → regex_config r ≡ default_config → IsReadFromSource r →
    (tree : Re) × (tree_of text ≡ Some tree) × SameCaptures (regex_pattern r) tree
tree_of-regex r text source config is_read =
    tree_of-Reads text r.pattern.program.hir (names_of r.pattern.names.items) (rw (source, config) at is_read)

no_tree : (kind : ErrorKind) (o : Option (Nested Re × Names)) → kind ≢ OutOfMemory →
    (kind ≡ OutOfMemory) ⊎ ((o ≡ None) ⊎ ((kind ≡ NestLimitExceeded) × IfSome o (λ (re, _). 250 < re.depth))) →
    tree_within o ≡ None
no_tree kind o not_memory (inl memory) = absurd (not_memory memory)
no_tree kind o not_memory (inr (inl none)) = ap tree_within none
no_tree kind None not_memory (inr (inr deep)) = refl
no_tree kind (Some x) not_memory (inr (inr deep)) = grind (arith, nat_tests, deep.1)

-- a text that the grammar refuses has no tree
pub no_tree-Refuses : (text : List ℕ) (kind : ErrorKind) → kind ≢ OutOfMemory → Refuses default_config text kind → tree_of text ≡ None
unfolding Refuses tree_of
no_tree-Refuses text kind not_memory h = no_tree kind (read default_config (chars text)) not_memory h

pub no_tree-refused : (config : Config) (source text : List ℕ) (kind : ErrorKind) → config ≡ default_config → source ≡ text →
    kind ≢ OutOfMemory → Refuses config source kind → tree_of text ≡ None
no_tree-refused config source text kind config_is source_is not_memory h =
    no_tree-Refuses text kind not_memory (rw (config_is, source_is) at h)

pub group_count_of-regex : (r : Regex) (text : List ℕ) → regex_source r ≡ text → regex_config r ≡ default_config → IsReadFromSource r →
    group_count_of text ≡ length (regex_names r) - 1
group_count_of-regex r text source config is_read =
    group_count_of-Reads text r.pattern.program.hir (names_of r.pattern.names.items) (rw (source, config) at is_read)

-- an expression that is built from a text finds what the text stands for
pub Finds-built : (r : Regex) (text : List ℕ) → IsBuiltFrom text r → Finds (regex_pattern r) text
Finds-built r text h =
    let tree = tree_of-regex r text h.source h.config h.read in
    subst (λ (o : Option Re). IsSomeAnd o (SameCaptures (regex_pattern r))) (sym tree.1) tree.2

-- a matcher of an expression that is built from a text
pub Finds-matcher : (re : Re) (r : Regex) (made text : List ℕ) → re ≡ regex_pattern r → IsBuiltFrom made r → made ≡ text → Finds re text
Finds-matcher re r made text same h is = rw (same, ← is) (Finds-built r made h)
