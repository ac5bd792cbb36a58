-- The generated corpus, one document more at a time.
use Rattle.std.proofs.Common.{◌≡◌, ℕ, suc, ◌+◌, ◌-◌, ◌≤◌, List, [], ◌∷◌, ◌++◌, sym, ap, ◌∙◌, arith, zero, zero-add, append-nil, append_assoc}
use Rattle.std.proofs.lemmas.List.Concat.{flat_map-append}
use Rattle.std.proofs.lemmas.List.FromFn.{map-range_with_len_more}
use Rattle.span_token.specs.Documents.{Doc}
use Rattle.demo_corpus.specs.Generator.{generated, first_documents}
use Rattle.demo_corpus.specs.Corpora.{corpus_of, document_text, generated_corpus}

pub corpus_of-append : (some more : List Doc) → corpus_of (some ++ more) ≡ corpus_of some ++ corpus_of more
corpus_of-append some more = flat_map-append (λ document. document_text document ++ 10 ∷ []) some more

-- the corpus of one document more
pub corpus_more : (i : ℕ) → generated_corpus (i + 1) ≡ generated_corpus i ++ corpus_of (generated i ∷ [])
corpus_more i = ap corpus_of (map-range_with_len_more generated 0 i i (zero-add i)) ∙ corpus_of-append (first_documents i) (generated i ∷ [])

-- a corpus of more documents goes on with something
pub corpus_rest : (more i : ℕ) → (later : List ℕ) × (generated_corpus (i + more) ≡ generated_corpus i ++ later)
corpus_rest zero i = ([], ap generated_corpus (omega arith) ∙ sym (append-nil (generated_corpus i)))
corpus_rest (suc more) i =
    let rest = corpus_rest more (i + 1) in (
      corpus_of (generated i ∷ []) ++ rest.0,
      ap generated_corpus (omega arith) ∙ rest.1 ∙ ap (λ bytes. bytes ++ rest.0) (corpus_more i) ∙ append_assoc (generated_corpus i) (corpus_of (generated i ∷ [])) rest.0,
    )

pub corpus_later : (i count : ℕ) → i ≤ count → (later : List ℕ) × (generated_corpus count ≡ generated_corpus i ++ later)
corpus_later i count within = let rest = corpus_rest (count - i) i in (rest.0, ap generated_corpus (omega arith) ∙ rest.1)
