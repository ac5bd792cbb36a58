-- Reading a file from its beginning, piece by piece.
use Rattle.std.proofs.Common.{◌≡◌, ℕ, ◌+◌, ◌<◌, ◌≤◌, List, [], ◌++◌, length, take, ap, ap₂, ◌∙◌, sym, refl, None, Some, Option, Ok, IfSome, arith, length-append}
use Rattle.std.proofs.Math.Seq.{take-add}
use Rattle.std.proofs.lemmas.List.{take_all}
use Rattle.std.proofs.lemmas.List.{length-take-le}
use Rattle.aql_io.specs.Bytes.{Names, ReadsAt}
use Rattle.aql_io.specs.declared.failed.Failed.{Failed}
use Rattle.aqlx_top.specs.ProgramFile.{IsFrontOf, IsSoFar}

-- the bytes so far, and the next ones
more_of : (file : Option (List ℕ)) (bytes buf : List ℕ) (n : ℕ) → n ≤ length buf
    → IsSoFar file bytes
    → ReadsAt {E = Failed} file (length bytes) (Ok n) buf
    → IsSoFar file (bytes ++ take n buf)
more_of None bytes buf n fits h k = absurd k
more_of (Some held) bytes buf n fits h k =
    let long : length (bytes ++ take n buf) ≡ length bytes + n = length-append bytes (take n buf) ∙ ap (λ m. length bytes + m) (length-take-le n buf fits) in
    ap₂ (λ u v. u ++ v) h k.0 ∙ sym (take-add (length bytes) n held) ∙ ap (λ m. take m held) (sym long)

pub so_far_more : (told : Option Names) (name bytes buf after : List ℕ) (n at : ℕ) → at ≡ length bytes → after ≡ bytes ++ take n buf
    → n ≤ length buf
    → IfSome told (λ names. IsSoFar (names name) bytes)
    → IfSome told (λ names. ReadsAt {E = Failed} (names name) at (Ok n) buf)
    → IfSome told (λ names. IsSoFar (names name) after)
so_far_more None name bytes buf after n at here gained fits h k = tt
so_far_more (Some names) name bytes buf after n at here gained fits h k =
    let reads : ReadsAt {E = Failed} (names name) (length bytes) (Ok n) buf = rw here at k in
    rw gained (more_of (names name) bytes buf n fits h reads)

-- a read that gives nothing stands at the end
end_of : (file : Option (List ℕ)) (bytes buf : List ℕ) (most : ℕ) → 0 < length buf → length bytes ≤ most
    → IsSoFar file bytes
    → ReadsAt {E = Failed} file (length bytes) (Ok 0) buf
    → IsFrontOf file most bytes
end_of None bytes buf most room fits h k = absurd k
end_of (Some held) bytes buf most room fits h k =
    let short : length held ≤ length bytes = k.2 refl room in
    let shorter : length held ≤ most = omega arith in
    h ∙ take_all (length bytes) held short ∙ sym (take_all most held shorter)

pub front_at_end : (told : Option Names) (name bytes buf : List ℕ) (at : ℕ) → at ≡ length bytes → 0 < length buf
    → IfSome told (λ names. IsSoFar (names name) bytes)
    → IfSome told (λ names. ReadsAt {E = Failed} (names name) at (Ok 0) buf)
    → IfSome told (λ names. (most : ℕ) → length bytes ≤ most → IsFrontOf (names name) most bytes)
front_at_end None name bytes buf at here room h k = tt
front_at_end (Some names) name bytes buf at here room h k =
    let reads : ReadsAt {E = Failed} (names name) (length bytes) (Ok 0) buf = rw here at k in
    λ most fits. end_of (names name) bytes buf most room fits h reads

-- as many bytes as are wanted
most_of : (file : Option (List ℕ)) (bytes : List ℕ) → 0 < length bytes → IsSoFar file bytes → IsFrontOf file (length bytes) bytes
most_of None bytes some h = let none : length bytes ≡ 0 = ap length h in absurd (omega arith)
most_of (Some held) bytes some h = h

pub front_at_most : (told : Option Names) (name bytes : List ℕ) (most : ℕ) → 0 < most → length bytes ≡ most
    → IfSome told (λ names. IsSoFar (names name) bytes)
    → IfSome told (λ names. IsFrontOf (names name) most bytes)
front_at_most None name bytes most some long h = tt
front_at_most (Some names) name bytes most some long h =
    let more : 0 < length bytes = omega arith in
    rw (← long) (most_of (names name) bytes more h)

-- before the first read
pub so_far_nothing : (file : Option (List ℕ)) → IsSoFar file []
so_far_nothing None = refl
so_far_nothing (Some held) = refl

pub none_so_far : (told : Option Names) (name : List ℕ) → IfSome told (λ names. IsSoFar (names name) [])
none_so_far None name = tt
none_so_far (Some names) name = so_far_nothing (names name)
