-- A text in which a pattern has a match, and the match spans it, is made of the bytes of the pattern's texts.
use Rattle.std.proofs.Common.{◌≡◌, ℕ, ◌<◌, ◌≤◌, ◌++◌, Bool, true, false, List, length, All, sym, ap, ◌∙◌, subst, append-nil, le_refl}
use Rattle.std.proofs.lemmas.List.{drop_all}
use Rattle.std.proofs.lemmas.List.Elements.{All-from_get_or}
use Rattle.regex.specs.Patterns.{Re, find_str, default_config, Reads}
use Rattle.regex.proofs.ForCallers.{find_str_sound}
use Rattle.regex.proofs.SearchLemmas.{leftmost_attempt}
use Rattle.regex_extract.specs.Bounds.{IsAnchored}
use Rattle.regex_extract.specs.Language.{InLanguage}
use Rattle.regex_extract.proofs.LanguageLemmas.{text_of_match}
use Rattle.regex_hir.specs.declared.hir.Hir.{Hir}
use Rattle.regex_hir.specs.Matches.{Matches}
use Rattle.regex_hir.specs.Meaning.{meaning}
use Rattle.regex_hir.proofs.OptionLemmas.{value_of_IsSome}
use Rattle.regex_syntax.specs.Grammar.{Names}
use Rattle.aql_regex_extract.specs.ByteSets.{Has}
use Rattle.aql_regex_extract.specs.Bytes.{IsMadeOf, Begins, BeginsIn, AreBytes, IsAdmitted, AdmitsWhole, AdmitsMatches}
use Rattle.aql_regex_extract.specs.declared.admitted.Admitted.{Admitted}
use Rattle.aql_regex_extract.specs.declared.byte_set.ByteSet.{ByteSet}
use Rattle.aql_regex_extract.proofs.BytesLemmas.{Begins-open}
use Rattle.aql_regex_extract.proofs.MatchesAlike.{has_match-of_pattern}
use Rattle.aql_regex_extract.proofs.Trees.{Finds-Reads}

-- what has a match from end to end is a text of the pattern
whole_text : (re : Re) → IsAnchored true re → IsAnchored false re → (text : List ℕ) → AreBytes text → (i j : ℕ) → i ≤ length text →
    Matches text re i j → InLanguage re text
whole_text re start end text bytes i j le m =
    let from : i ≡ 0 = start.at text i j le m in
    let to : j ≡ length text = end.at text i j le m in
    let t = text_of_match text (All-from_get_or (λ b. b < 256) text 0 (λ k lt. bytes k)) re 0 (length text) (rw (from, to) at m) in
    subst (InLanguage re)
    (sym (t.1.reads ∙ ap (λ rest. t.0 ++ rest) (drop_all (length text) text (le_refl (length text))) ∙ append-nil t.0)) t.2

pub AdmitsWhole-of_sets : (re : Re) (a : Admitted) (firsts bytes : ByteSet) (o : Bool) → IsAnchored true re → IsAnchored false re →
    BeginsIn firsts o re → IsMadeOf bytes re →
    ((text : List ℕ) → Begins firsts true text → All (Has bytes) text → IsAdmitted a text) → AdmitsWhole re a
AdmitsWhole-of_sets re a firsts bytes o start end begins made admits = record {
  at = λ text are i j le m.
      let l = whole_text re start end text are i j le m in
      admits text (Begins-open firsts o text (begins.at text l)) (made.at text l);
}

pub AdmitsMatches-of_tree : (form : List ℕ) (hir : Hir) (names : Names) (a : Admitted) → Reads default_config form hir names →
    AdmitsWhole (meaning hir) a → AdmitsMatches form a
AdmitsMatches-of_tree form hir names a reads whole = record {
  at = λ text bytes h.
      let re = meaning hir in
      let found = value_of_IsSome (find_str re text 0) (has_match-of_pattern re form text (Finds-Reads form hir names reads) bytes ∙ h) in
      whole.at text bytes found.0.start found.0.trace.end (leftmost_attempt re text true 0 found.0 found.1).1
      (find_str_sound re text 0 found.0 found.1).1;
}
