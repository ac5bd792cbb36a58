-- The tokens before, after and between places, by how many stand before each place.
use Rattle.std.proofs.Common.{◌≡◌, ◌≤◌, ◌<◌, ◌+◌, ◌-◌, ◌∙◌, ℕ, zero, suc, min, max, Bool, true, false, ◌&&◌, nat_lt, nat_le, Some, List, [], ◌∷◌, length, get_or, take, drop, refl, sym, ap, ap₂, subst, arith, slice_get}
use Rattle.std.specs.List.{AllWithin, filter, count_by}
use Rattle.std.specs.List.Sorted.{IsPartitionedBy, IsPartitionPoint}
use Rattle.std.proofs.lemmas.Bool.Decides.{nat_tests}
use Rattle.std.proofs.lemmas.List.{nil_from_length, drop_all, drop_more, get_or-take, get_or-drop, length-take, length-drop, length-take-le, take_rest}
use Rattle.std.proofs.lemmas.List.Sorted.{IsPartitionedBy-ltb, IsPartitionedBy-leb}
use Rattle.std.proofs.lemmas.List.Sums.{count_by-le-length, length-filter}
use Rattle.std.proofs.lemmas.Option.{get_or_from_slice_get, slice_get_within}
use Rattle.span_token.specs.Extents.{Extent}
use Rattle.span_token.specs.Relations.{tokens_between}
use Rattle.span_token.specs.Contexts.{ended_by, begun_from, first_begin, last_end, AreWithin}
use Rattle.span_token.specs.Tokens.{tokens_of}
use Rattle.span_token.proofs.TokenCounts.{begins_rise, ends_rise, count_yes, count_to_point, filter_to_point}

take_none : {X : Type 0} (n : ℕ) → take n (let none : List X = [] in none) ≡ []
take_none zero = refl
take_none (suc n) = refl

-- a filter that passes the elements with numbers from `i` to `i + n`, not that one, and no other
pub filter_middle : {X : Type 0} (p : X → Bool) (xs : List X) (i n : ℕ) → AllWithin (λ x. p x ≡ false) xs 0 i → AllWithin (λ x. p x ≡ true) xs i (min (i + n) (length xs))
    → AllWithin (λ x. p x ≡ false) xs (i + n) (length xs) → filter p xs ≡ take n (drop i xs)
filter_middle p [] zero n low mid high = sym (take_none n)
filter_middle p [] (suc i) n low mid high = sym (take_none n)
filter_middle p (x ∷ xs) zero zero low mid high =
    rw (high 0 x (omega arith) (omega arith))
    (filter_middle p xs zero zero (λ k d a b. absurd (omega arith)) (λ k d a b. absurd (omega arith)) (λ k d a b. high (suc k) d (omega arith) (omega arith)))
filter_middle p (x ∷ xs) zero (suc n) low mid high =
    rw (mid 0 x (omega arith) (omega arith))
    (ap (λ ys. x ∷ ys) (filter_middle p xs zero n (λ k d a b. absurd (omega arith)) (λ k d a b. mid (suc k) d (omega arith) (omega (arith, b))) (λ k d a b. high (suc k) d (omega arith) (omega arith))))
filter_middle p (x ∷ xs) (suc i) n low mid high =
    rw (low 0 x (omega arith) (omega arith))
    (filter_middle p xs i n (λ k d a b. low (suc k) d (omega arith) (omega arith)) (λ k d a b. mid (suc k) d (omega arith) (omega (arith, b))) (λ k d a b. high (suc k) d (omega arith) (omega arith)))

same_tests : (b : Bool) → (b ≡ true → ⊥) → b ≡ false
same_tests true h = absurd (h refl)
same_tests false h = refl

clash : (b : Bool) → b ≡ true → b ≡ false → ⊥
clash b e f = cc

front : {X : Type 0} (p : X → Bool) (x : X) (xs : List X) (n : ℕ) → p x ≡ true → AllWithin (λ y. p y ≡ true) xs 0 n → AllWithin (λ y. p y ≡ true) (x ∷ xs) 0 (1 + n)
front p x xs n e all zero d a b = e
front p x xs n e all (suc k) d a b = all k d (omega arith) (omega arith)

back : {X : Type 0} (p : X → Bool) (x : X) (xs : List X) (n : ℕ) → AllWithin (λ y. p y ≡ false) xs n (length xs) → AllWithin (λ y. p y ≡ false) (x ∷ xs) (1 + n) (length (x ∷ xs))
back p x xs n all zero d a b = absurd (omega arith)
back p x xs n all (suc k) d a b = all k d (omega arith) (omega arith)

point_more : {X : Type 0} (p : X → Bool) (x : X) (xs : List X) (n : ℕ) → p x ≡ true → IsPartitionPoint (λ y. p y ≡ true) (λ y. p y ≡ false) xs n
    → IsPartitionPoint (λ y. p y ≡ true) (λ y. p y ≡ false) (x ∷ xs) (1 + n)
point_more {X} p x xs n e rest = (front p x xs n e rest.0, back p x xs n rest.1)

-- the count of what passes is the point up to which all pass
point_by : {X : Type 0} (b : Bool) (p : X → Bool) (x : X) (xs : List X) → p x ≡ b → IsPartitionedBy p (x ∷ xs)
    → IsPartitionPoint (λ y. p y ≡ true) (λ y. p y ≡ false) xs (count_by p xs)
    → IsPartitionPoint (λ y. p y ≡ true) (λ y. p y ≡ false) (x ∷ xs) (count_by p (x ∷ xs))
point_by true p x xs e parted rest = rw (count_yes p x xs e) (point_more p x xs (count_by p xs) e rest)
point_by {X} false p x xs e parted rest =
    let none : (k : ℕ) (d : X) → k < length (x ∷ xs) → p (get_or (x ∷ xs) k d) ≡ false =
    λ k d l. same_tests (p (get_or (x ∷ xs) k d)) (λ t. clash (p x) (parted 0 k d (omega arith) l t) e) in
    let point : IsPartitionPoint (λ y. p y ≡ true) (λ y. p y ≡ false) (x ∷ xs) 0 = (λ k d a b. absurd (omega arith), λ k d a b. none k d b) in
    subst (λ n. IsPartitionPoint (λ y. p y ≡ true) (λ y. p y ≡ false) (x ∷ xs) n) (count_to_point p (x ∷ xs) 0 (omega arith) point) point

pub point_of_count : {X : Type 0} (p : X → Bool) (xs : List X) → IsPartitionedBy p xs → IsPartitionPoint (λ y. p y ≡ true) (λ y. p y ≡ false) xs (count_by p xs)
point_of_count p [] parted = (λ k d a b. absurd (omega arith), λ k d a b. absurd (omega arith))
point_of_count p (x ∷ xs) parted =
    point_by (p x) p x xs refl parted (point_of_count p xs (λ i j d h l. parted (suc i) (suc j) d (omega arith) (omega arith)))

-- the points of the tokens' begins and ends
begin_point : (cs : List ℕ) (place : ℕ) → IsPartitionPoint (λ (t : Extent). nat_lt t.begin place ≡ true) (λ t. nat_lt t.begin place ≡ false) (tokens_of cs) (count_by (λ t. nat_lt t.begin place) (tokens_of cs))
begin_point cs place = point_of_count (λ t. nat_lt t.begin place) (tokens_of cs) (IsPartitionedBy-ltb (λ t. t.begin) (tokens_of cs) place (begins_rise cs))

end_point : (cs : List ℕ) (place : ℕ) → IsPartitionPoint (λ (t : Extent). nat_le t.end place ≡ true) (λ t. nat_le t.end place ≡ false) (tokens_of cs) (count_by (λ t. nat_le t.end place) (tokens_of cs))
end_point cs place = point_of_count (λ t. nat_le t.end place) (tokens_of cs) (IsPartitionedBy-leb (λ t. t.end) (tokens_of cs) place (ends_rise cs))

not_both : (x y : Bool) → x ≡ false → x && y ≡ false
not_both x y e = rw e refl

not_second : (x y : Bool) → y ≡ false → x && y ≡ false
not_second true y e = e
not_second false y e = refl

both_hold : (x y : Bool) → x ≡ true → y ≡ true → x && y ≡ true
both_hold x y e f = rw (e, f) refl

past_place : (n place : ℕ) → nat_lt n place ≡ false → nat_le place n ≡ true
past_place n place e = grind (arith, nat_tests)

before_place : (n place : ℕ) → nat_lt n place ≡ true → nat_le place n ≡ false
before_place n place e = grind (arith, nat_tests)

-- the tokens that begin at or after a place and end at or before another
pub tokens_in_range : (cs : List ℕ) (from to : ℕ) → filter (λ (t : Extent). nat_le from t.begin && nat_le t.end to) (tokens_of cs)
    ≡ take (count_by (λ t. nat_le t.end to) (tokens_of cs) - count_by (λ t. nat_lt t.begin from) (tokens_of cs)) (drop (count_by (λ t. nat_lt t.begin from) (tokens_of cs)) (tokens_of cs))
tokens_in_range cs from to =
    let begun : ℕ = count_by (λ t. nat_lt t.begin from) (tokens_of cs) in
    let ended : ℕ = count_by (λ t. nat_le t.end to) (tokens_of cs) in
    filter_middle (λ t. nat_le from t.begin && nat_le t.end to) (tokens_of cs) begun (ended - begun)
    (λ k d a b. not_both (nat_le from (get_or (tokens_of cs) k d).begin) (nat_le (get_or (tokens_of cs) k d).end to)
    (before_place (get_or (tokens_of cs) k d).begin from ((begin_point cs from).0 k d a b)))
    (λ k d a b. both_hold (nat_le from (get_or (tokens_of cs) k d).begin) (nat_le (get_or (tokens_of cs) k d).end to)
    (past_place (get_or (tokens_of cs) k d).begin from ((begin_point cs from).1 k d a (omega (arith, b))))
    ((end_point cs to).0 k d (omega arith) (omega (arith, a, b))))
    (λ k d a b. not_second (nat_le from (get_or (tokens_of cs) k d).begin) (nat_le (get_or (tokens_of cs) k d).end to)
    ((end_point cs to).1 k d (omega (arith, a)) b))

-- those in a span, by their numbers
pub tokens_within : (cs : List ℕ) (s : Extent) (first past : ℕ) → first ≡ count_by (λ t. nat_lt t.begin s.begin) (tokens_of cs)
    → past ≡ max first (count_by (λ t. nat_le t.end s.end) (tokens_of cs)) → AreWithin (tokens_of cs) s first past
tokens_within cs s first past e f =
    let ended : ℕ = count_by (λ t. nat_le t.end s.end) (tokens_of cs) in
    let fewer : count_by (λ (t : Extent). nat_lt t.begin s.begin) (tokens_of cs) ≤ length (tokens_of cs) = count_by-le-length _ (tokens_of cs) in
    let fewer_ended : ended ≤ length (tokens_of cs) = count_by-le-length _ (tokens_of cs) in
    let n : past - first ≡ ended - first = omega (arith, f) in
    record {
      ordered = omega (arith, f);
      in_list = omega (arith, e, f, fewer, fewer_ended);
      tokens_are = ap (λ m. take m (drop first (tokens_of cs))) n
          ∙ ap (λ m. take (ended - m) (drop m (tokens_of cs))) e ∙ sym (tokens_in_range cs s.begin s.end);
    }

-- how many tokens lie between two places
pub count_between : (cs : List ℕ) (from to : ℕ) → tokens_between (tokens_of cs) from to ≡ count_by (λ t. nat_le t.end to) (tokens_of cs) - count_by (λ t. nat_lt t.begin from) (tokens_of cs)
count_between cs from to =
    let begun : ℕ = count_by (λ t. nat_lt t.begin from) (tokens_of cs) in
    let ended : ℕ = count_by (λ t. nat_le t.end to) (tokens_of cs) in
    let fewer : ended ≤ length (tokens_of cs) = count_by-le-length _ (tokens_of cs) in
    let room : ended - begun ≤ length (drop begun (tokens_of cs)) = omega (arith, fewer, length-drop begun (tokens_of cs)) in
    sym (length-filter (λ t. nat_le from t.begin && nat_le t.end to) (tokens_of cs)) ∙ ap length (tokens_in_range cs from to)
    ∙ length-take-le (ended - begun) (drop begun (tokens_of cs)) room

-- the tokens before a place
pub ended_by_is : (cs : List ℕ) (place : ℕ) → ended_by (tokens_of cs) place ≡ take (count_by (λ t. nat_le t.end place) (tokens_of cs)) (tokens_of cs)
ended_by_is cs place =
    filter_to_point (λ t. nat_le t.end place) (tokens_of cs) (count_by (λ t. nat_le t.end place) (tokens_of cs)) (count_by-le-length _ (tokens_of cs)) (end_point cs place)

-- and those after it
pub begun_from_is : (cs : List ℕ) (place : ℕ) → begun_from (tokens_of cs) place ≡ drop (count_by (λ t. nat_lt t.begin place) (tokens_of cs)) (tokens_of cs)
begun_from_is cs place =
    let begun : ℕ = count_by (λ t. nat_lt t.begin place) (tokens_of cs) in
    filter_middle (λ t. nat_le place t.begin) (tokens_of cs) begun (length (tokens_of cs) - begun)
    (λ k d a b. before_place (get_or (tokens_of cs) k d).begin place ((begin_point cs place).0 k d a b))
    (λ k d a b. past_place (get_or (tokens_of cs) k d).begin place ((begin_point cs place).1 k d a (omega (arith, b))))
    (λ k d a b. absurd (omega (arith, a, b)))
    ∙ take_rest (tokens_of cs) begun

-- the begin of the first token of a context, and the end of the last
pub first_begin_none : (ts : List Extent) (n place : ℕ) → length ts ≤ n → first_begin place (drop n ts) ≡ place
first_begin_none ts n place h = ap (first_begin place) (drop_all n ts h)

pub first_begin_at : (ts : List Extent) (i n place : ℕ) (t : Extent) → i < n → n ≤ length ts → slice_get ts i ≡ Some t → first_begin place (drop i (take n ts)) ≡ t.begin
first_begin_at ts i n place t h l e =
    let long : length (take n ts) ≡ n = length-take-le n ts l in
    let at : get_or (take n ts) i t ≡ t = get_or-take n ts i t h ∙ get_or_from_slice_get ts i t t e in
    ap (first_begin place) (drop_more (take n ts) i t (omega (arith, long))) ∙ ap (λ (u : Extent). u.begin) at

pub last_end_at : (ts : List Extent) (place m : ℕ) (t : Extent) → length ts ≡ m + 1 → get_or ts m t ≡ t → last_end place ts ≡ t.end
last_end_at [] place m t l e = absurd (omega (arith, l))
last_end_at (u ∷ []) place zero t l e = ap (λ (v : Extent). v.end) e
last_end_at (u ∷ []) place (suc m) t l e = absurd (omega (arith, l))
last_end_at (u ∷ v ∷ ts) place zero t l e = absurd (omega (arith, l))
last_end_at (u ∷ v ∷ ts) place (suc m) t l e = last_end_at (v ∷ ts) u.end m t (omega (arith, l)) e

at_most_place : (n place : ℕ) → nat_le n place ≡ true → n ≤ place
at_most_place n place e = grind (arith, nat_tests)

at_least_place : (n place : ℕ) → nat_lt n place ≡ false → place ≤ n
at_least_place n place e = grind (arith, nat_tests)

-- a context of tokens to the left: `ended` tokens stand before the place, of which `taken` are in it
pub left_none : (cs : List ℕ) (place n ended taken : ℕ) → ended ≡ count_by (λ t. nat_le t.end place) (tokens_of cs) → taken ≡ min ended n → taken ≡ 0
    → place ≡ first_begin place (drop (length (ended_by (tokens_of cs) place) - n) (ended_by (tokens_of cs) place))
left_none cs place n ended taken e some none =
    let fewer : count_by (λ (t : Extent). nat_le t.end place) (tokens_of cs) ≤ length (tokens_of cs) = count_by-le-length _ (tokens_of cs) in
    let long : length (ended_by (tokens_of cs) place) ≡ ended = ap length (ended_by_is cs place) ∙ length-take-le _ (tokens_of cs) fewer ∙ sym e in
    sym (first_begin_none (ended_by (tokens_of cs) place) (length (ended_by (tokens_of cs) place) - n) place (omega (arith, long, some, none)))

pub left_some : (cs : List ℕ) (place n ended taken : ℕ) (t : Extent) → ended ≡ count_by (λ t. nat_le t.end place) (tokens_of cs) → taken ≡ min ended n → (taken ≡ 0 → ⊥)
    → slice_get (tokens_of cs) (ended - taken) ≡ Some t
    → t.begin ≡ first_begin place (drop (length (ended_by (tokens_of cs) place) - n) (ended_by (tokens_of cs) place))
left_some cs place n ended taken t e some more at =
    let fewer : count_by (λ (t : Extent). nat_le t.end place) (tokens_of cs) ≤ length (tokens_of cs) = count_by-le-length _ (tokens_of cs) in
    let tokens_are : ended_by (tokens_of cs) place ≡ take ended (tokens_of cs) = ended_by_is cs place ∙ ap (λ m. take m (tokens_of cs)) (sym e) in
    let long : length (ended_by (tokens_of cs) place) ≡ ended = ap length tokens_are ∙ length-take-le ended (tokens_of cs) (omega (arith, e, fewer)) in
    let first : length (ended_by (tokens_of cs) place) - n ≡ ended - taken = omega (arith, long, some) in
    sym (ap₂ (λ m ts. first_begin place (drop m ts)) first tokens_are
    ∙ first_begin_at (tokens_of cs) (ended - taken) ended place t (omega (arith, some, more)) (omega (arith, e, fewer)) at)

pub left_before : (cs : List ℕ) (place i ended : ℕ) (t : Extent) → ended ≡ count_by (λ t. nat_le t.end place) (tokens_of cs) → i < ended
    → slice_get (tokens_of cs) i ≡ Some t → t.end ≤ place
left_before cs place i ended t e h at =
    let here : get_or (tokens_of cs) i t ≡ t = get_or_from_slice_get (tokens_of cs) i t t at in
    let test : nat_le (get_or (tokens_of cs) i t).end place ≡ true = (end_point cs place).0 i t (omega arith) (omega (arith, e, h)) in
    at_most_place t.end place (ap (λ (u : Extent). nat_le u.end place) (sym here) ∙ test)

-- a context to the right: `begun` tokens begin before the place
pub right_none : (cs : List ℕ) (place n begun taken : ℕ) → begun ≡ count_by (λ t. nat_lt t.begin place) (tokens_of cs) → taken ≡ min (length (tokens_of cs) - begun) n → taken ≡ 0
    → place ≡ last_end place (take n (begun_from (tokens_of cs) place))
right_none cs place n begun taken e some none =
    let tokens_are : begun_from (tokens_of cs) place ≡ drop begun (tokens_of cs) = begun_from_is cs place ∙ ap (λ m. drop m (tokens_of cs)) (sym e) in
    let empty : take n (begun_from (tokens_of cs) place) ≡ [] =
    nil_from_length (take n (begun_from (tokens_of cs) place))
    (omega (arith, length-take n (begun_from (tokens_of cs) place), ap length tokens_are, length-drop begun (tokens_of cs), some, none)) in
    sym (ap (last_end place) empty)

pub right_some : (cs : List ℕ) (place n begun taken : ℕ) (t : Extent) → begun ≡ count_by (λ t. nat_lt t.begin place) (tokens_of cs) → taken ≡ min (length (tokens_of cs) - begun) n
    → (taken ≡ 0 → ⊥) → slice_get (tokens_of cs) (begun + taken - 1) ≡ Some t → t.end ≡ last_end place (take n (begun_from (tokens_of cs) place))
right_some cs place n begun taken t e some more at =
    let tokens_are : begun_from (tokens_of cs) place ≡ drop begun (tokens_of cs) = begun_from_is cs place ∙ ap (λ m. drop m (tokens_of cs)) (sym e) in
    let place_is : begun + (taken - 1) ≡ begun + taken - 1 = omega (arith, more) in
    let here : get_or (take n (drop begun (tokens_of cs))) (taken - 1) t ≡ t =
    get_or-take n (drop begun (tokens_of cs)) (taken - 1) t (omega (arith, some, more)) ∙ get_or-drop begun (tokens_of cs) (taken - 1) t
    ∙ ap (λ m. get_or (tokens_of cs) m t) place_is ∙ get_or_from_slice_get (tokens_of cs) (begun + taken - 1) t t at in
    sym (ap (λ ts. last_end place (take n ts)) tokens_are
    ∙ last_end_at (take n (drop begun (tokens_of cs))) place (taken - 1) t
    (omega (arith, length-take n (drop begun (tokens_of cs)), length-drop begun (tokens_of cs), some, more)) here)

pub right_after : (cs : List ℕ) (place i begun : ℕ) (t : Extent) → begun ≡ count_by (λ t. nat_lt t.begin place) (tokens_of cs) → begun ≤ i
    → slice_get (tokens_of cs) i ≡ Some t → place ≤ t.begin
right_after cs place i begun t e h at =
    let here : get_or (tokens_of cs) i t ≡ t = get_or_from_slice_get (tokens_of cs) i t t at in
    let test : nat_lt (get_or (tokens_of cs) i t).begin place ≡ false = (begin_point cs place).1 i t (omega (arith, e, h)) (slice_get_within (tokens_of cs) i t at) in
    at_least_place t.begin place (ap (λ (u : Extent). nat_lt u.begin place) (sym here) ∙ test)
