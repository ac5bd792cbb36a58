-- Nodes that stay where they are while more are put.
use Rattle.std.proofs.Common.{◌≡◌, ◌∙◌, ℕ, ◌<◌, ◌⊎◌, inl, inr, List, [], ◌∷◌, ◌++◌, length, set, slice_get, refl, sym, ap, subst, arith, Some}
use Rattle.std.proofs.lemmas.Bool.{cases_lt}
use Rattle.std.proofs.lemmas.List.{length-append, length-set, get_or_at}
use Rattle.std.proofs.lemmas.Option.{slice_get_within, slice_get-get_or}
use Rattle.algebra.specs.declared.node.Node.{Node}
use Rattle.algebra.specs.declared.node.Node.TheVariants.{Doc, Dict, DictPart}
use Rattle.share_plan.specs.declared.kind.Kind.TheVariants.{Plain}
use Rattle.share_plan.specs.Kinds.{kind_of}
use Rattle.share_plan.specs.Putting.{Extends, IsFoundOrPut}
use Rattle.share_plan.proofs.Finding.{there_in_front, there_set_other, there_set_same}
use Rattle.share_plan.proofs.KindLaws.{plain-source, plain-part}

some_same : (a b : Node) → Some a ≡ Some b → a ≡ b
some_same a b e = cc

pub at_last : (xs : List Node) (x : Node) → slice_get (xs ++ x ∷ []) (length xs) ≡ Some x
at_last xs x =
    slice_get-get_or (xs ++ x ∷ []) (length xs) Doc (omega (arith, length-append xs (x ∷ [])))
    ∙ ap (λ (node : Node). Some node) (get_or_at xs x [] Doc (length xs) refl)

-- two readings of one number are one node
pub same_at : (nodes : List Node) (k : ℕ) (a b : Node) → slice_get nodes k ≡ Some a → slice_get nodes k ≡ Some b → a ≡ b
same_at nodes k a b first second = some_same a b (sym first ∙ second)

-- what stands behind the others is one of them or the last
pub front_or_last : (xs : List Node) (x : Node) (k : ℕ) (y : Node) → slice_get (xs ++ x ∷ []) k ≡ Some y → (slice_get xs k ≡ Some y) ⊎ ((k ≡ length xs) × (y ≡ x))
front_or_last xs x k y at = elim (cases_lt k (length xs)) [
  | inl h ↦ inl (sym (there_in_front Doc xs (x ∷ []) k h) ∙ at)
  | inr h ↦
      let last : k ≡ length xs = omega (arith, h, slice_get_within (xs ++ x ∷ []) k y at, length-append xs (x ∷ [])) in
      inr (last, same_at (xs ++ x ∷ []) k y x at (ap (λ (n : ℕ). slice_get (xs ++ x ∷ []) n) last ∙ at_last xs x))
]

pub front_stays : (xs ys : List Node) (k : ℕ) (y : Node) → slice_get xs k ≡ Some y → slice_get (xs ++ ys) k ≡ Some y
front_stays xs ys k y at = there_in_front Doc xs ys k (slice_get_within xs k y at) ∙ at

pub extends-same : (nodes : List Node) → Extends nodes nodes
extends-same nodes = record { stay = λ k node at other. at; were = λ k node at plain. at }

pub extends-trans : (a b c : List Node) → Extends a b → Extends b c → Extends a c
extends-trans a b c f g = record {
  stay = λ k node at other. g.stay k node (f.stay k node at other) other;
  were = λ k node at plain. f.were k node (g.were k node at plain) plain;
}

-- one node more, which is a `Dict` node or a part
pub extends-push : (nodes : List Node) (x : Node) → (kind_of x ≡ Plain → ⊥) → Extends nodes (nodes ++ x ∷ [])
extends-push nodes x apart = record {
  stay = λ k node at other. front_stays nodes (x ∷ []) k node at;
  were = λ k node at plain. elim (front_or_last nodes x k node at) [
    | inl h ↦ h
    | inr h ↦ absurd (apart (sym (ap (λ (y : Node). kind_of y) h.1) ∙ plain))
  ];
}

not_plain_dict : (i c : ℕ) (dicts : List ℕ) → kind_of (Dict i c dicts) ≡ Plain → ⊥
not_plain_dict i c dicts e = plain-source (sym e)

not_plain_part : (i p : ℕ) → kind_of (DictPart i p) ≡ Plain → ⊥
not_plain_part i p e = plain-part i p (sym e)

pub extends-dict : (nodes : List Node) (i c : ℕ) → Extends nodes (nodes ++ Dict i c [] ∷ [])
extends-dict nodes i c = extends-push nodes (Dict i c []) (not_plain_dict i c [])

whether : (k m : ℕ) → (k ≡ m) ⊎ (k ≡ m → ⊥)
whether k m = elim (cases_lt k m) [
  | inl h ↦ inr (λ e. omega (arith, h, e))
  | inr h ↦ elim (cases_lt m k) [
    | inl l ↦ inr (λ e. omega (arith, l, e))
    | inr l ↦ inl (omega (arith, h, l))
  ]
]

-- a `Dict` node stands where another stood
pub extends-set : (nodes : List Node) (m i c : ℕ) (dicts more : List ℕ) → slice_get nodes m ≡ Some (Dict i c dicts) → Extends nodes (set nodes m (Dict i c more))
extends-set nodes m i c dicts more at =
    let there : m < length nodes = slice_get_within nodes m (Dict i c dicts) at in
    let new : Node = Dict i c more in
    record {
      stay = λ k node here other. elim (whether k m) [
        | inl e ↦ absurd (other (ap (λ (x : Node). kind_of x) (same_at nodes k node (Dict i c dicts) here (ap (λ (n : ℕ). slice_get nodes n) e ∙ at))))
        | inr apart ↦ there_set_other Doc nodes m k new (slice_get_within nodes k node here) apart ∙ here
      ];
      were = λ k node here plain. elim (whether k m) [
        | inl e ↦
            let is : node ≡ new = same_at (set nodes m new) k node new here (ap (λ (n : ℕ). slice_get (set nodes m new) n) e ∙ there_set_same Doc nodes m new there) in
            absurd (not_plain_dict i c more (sym (ap (λ (x : Node). kind_of x) is) ∙ plain))
        | inr apart ↦
            let below : k < length nodes = omega (arith, slice_get_within (set nodes m new) k node here, length-set nodes m new) in
            sym (there_set_other Doc nodes m k new below apart) ∙ here
      ];
    }

-- a dictionary more, with its part
pub extends-part : (nodes wide last : List Node) (m i c d number : ℕ) (dicts : List ℕ) → slice_get nodes m ≡ Some (Dict i c dicts) → wide ≡ set nodes m (Dict i c (dicts ++ d ∷ []))
    → last ≡ wide ++ DictPart m number ∷ [] → Extends nodes last
extends-part nodes wide last m i c d number dicts at is_wide is_last =
    subst (λ (list : List Node). Extends nodes list) (sym (is_last ∙ ap (λ (list : List Node). list ++ DictPart m number ∷ []) is_wide))
    (extends-trans nodes (set nodes m (Dict i c (dicts ++ d ∷ []))) (set nodes m (Dict i c (dicts ++ d ∷ [])) ++ DictPart m number ∷ [])
    (extends-set nodes m i c dicts (dicts ++ d ∷ []) at)
    (extends-push (set nodes m (Dict i c (dicts ++ d ∷ []))) (DictPart m number) (not_plain_part m number)))

-- a node that was there, and one that is put behind the others
pub found-there : (nodes : List Node) (n : ℕ) (node : Node) → slice_get nodes n ≡ Some node → IsFoundOrPut nodes nodes n node
found-there nodes n node at = record { put = inl refl; at = at }

pub put-last : (nodes new : List Node) (n : ℕ) (node : Node) → new ≡ nodes ++ node ∷ [] → n ≡ length nodes → IsFoundOrPut nodes new n node
put-last nodes new n node is number = record {
  put = inr (is, number);
  at = ap (λ (list : List Node). slice_get list n) is ∙ (ap (λ (k : ℕ). slice_get (nodes ++ node ∷ []) k) number ∙ at_last nodes node);
}
