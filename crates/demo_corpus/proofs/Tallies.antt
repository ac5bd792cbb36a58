-- The totals of one answer more.
use Rattle.std.proofs.Common.{◌≡◌, ℕ, ◌+◌, ◌*◌, ◌<◌, ◌≤◌, ◌^◌, List, [], ◌∷◌, ◌++◌, length, map, get_or, sym, ap, ap₂, ◌∙◌, arith, zero-add, length-append, All, replicate}
use Rattle.std.proofs.lemmas.List.{length-replicate, get_or-replicate}
use Rattle.std.proofs.lemmas.List.Elements.{All-from_get_or}
use Rattle.std.proofs.lemmas.List.FromFn.{fill_by_all, get_or-map-range_with_len}
use Rattle.std.proofs.lemmas.List.Sums.{sum_by_push}
use Rattle.std.specs.List.{range_with_len}
use Rattle.demo_corpus.specs.Totals.{Answer, Tally, size_at, total_of, tally_of}

pub totals-more : (answers : List Answer) (answer : Answer) (old new : List ℕ) (n : ℕ) → old ≡ map (total_of answers) (range_with_len 0 n) → length new ≡ n
    → ((k : ℕ) → k < n → get_or new k 0 ≡ get_or old k 0 + size_at answer k) → new ≡ map (total_of (answers ++ answer ∷ [])) (range_with_len 0 n)
totals-more answers answer old new n is long each =
    fill_by_all (total_of (answers ++ answer ∷ [])) new n 0 long
    (λ k below.
    each k below
    ∙ ap (λ total. total + size_at answer k) (ap (λ totals. get_or totals k 0) is ∙ get_or-map-range_with_len (total_of answers) 0 n k k 0 below (zero-add k))
    ∙ sym (sum_by_push (λ other. size_at other k) answers answer))

-- one answer more: a document more, and its numbers of rows are added
pub tally-more : (answers : List Answer) (answer : Answer) (old new : Tally) (n : ℕ) → old ≡ tally_of n answers → new.documents ≡ old.documents + 1 → length new.totals ≡ n
    → ((k : ℕ) → k < n → get_or new.totals k 0 ≡ get_or old.totals k 0 + size_at answer k) → new ≡ tally_of n (answers ++ answer ∷ [])
tally-more answers answer old new n is documents long each =
    ap₂ (λ count totals. record { documents = count; totals = totals })
    (documents ∙ ap (λ tally. tally.documents + 1) is ∙ sym (length-append answers (answer ∷ [])))
    (totals-more answers answer old.totals new.totals n (ap (λ tally. tally.totals) is) long each)

-- of no answer, each total is 0
pub none_counted : (n : ℕ) → replicate n 0 ≡ map (total_of []) (range_with_len 0 n)
none_counted n = fill_by_all (total_of []) (replicate n 0) n 0 (length-replicate n 0) (λ k below. get_or-replicate n k 0 0 below)

-- totals that grew by one document's rows fit one document more
pub grown_within : (old new : List ℕ) (documents : ℕ) → length new ≡ length old → All (λ total. total ≤ documents * 2 ^ 32) old
    → ((k : ℕ) → k < length new → get_or new k 0 < get_or old k 0 + 2 ^ 32) → All (λ total. total ≤ (documents + 1) * 2 ^ 32) new
grown_within old new documents same within grown =
    All-from_get_or (λ total. total ≤ (documents + 1) * 2 ^ 32) new 0
    (λ k below.
    let before : get_or old k 0 ≤ documents * 2 ^ 32 = within k 0 (omega (arith, same)) in
    omega (arith, grown k below, before))

-- the tally of no document that has these totals
abbrev pub empty_tally : List ℕ → Tally
empty_tally totals = record { documents = 0; totals = totals }
