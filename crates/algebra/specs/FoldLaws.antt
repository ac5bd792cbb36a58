-- Laws of folds over nodes: what the nodes in front have stays when others are put behind them.
use Rattle.std.proofs.Common.{◌≡◌, ℕ, ◌+◌, ◌<◌, List, [], ◌∷◌, ◌++◌, length, get_or, refl, sym, ap, ap₂, ◌∙◌, arith, Option, Some, None}
use Rattle.std.proofs.lemmas.List.{length-append, get_or_append_left, get_or_at}
use Rattle.algebra.specs.declared.node.Node.{Node}
use Rattle.algebra.specs.Inputs.{left_input, right_input, IsAmong}
use Rattle.algebra.specs.Folds.{of_input, had, all_from}

module _ {A : Type 0} (nothing : A) (rule : Node → A → A → A) where
  pub all-append : (all : List A) (xs ys : List Node) → all_from nothing rule all (xs ++ ys) ≡ all_from nothing rule (all_from nothing rule all xs) ys
  all-append all [] ys = refl
  all-append all (x ∷ xs) ys = all-append (all ++ had nothing rule all x ∷ []) xs ys

  pub length-all : (all : List A) (xs : List Node) → length (all_from nothing rule all xs) ≡ length all + length xs
  length-all all [] = omega arith
  length-all all (x ∷ xs) = omega (arith, length-all (all ++ had nothing rule all x ∷ []) xs, length-append all (had nothing rule all x ∷ []))

  -- what was there stays
  pub all-kept : (all : List A) (xs : List Node) (i : ℕ) (d : A) → i < length all → get_or (all_from nothing rule all xs) i d ≡ get_or all i d
  all-kept all [] i d below = refl
  all-kept all (x ∷ xs) i d below =
      all-kept (all ++ had nothing rule all x ∷ []) xs i d (omega (arith, below, length-append all (had nothing rule all x ∷ [])))
      ∙ get_or_append_left all (had nothing rule all x ∷ []) d i below

  -- as many as nodes
  pub length-each : (xs : List Node) → length (all_from nothing rule [] xs) ≡ length xs
  length-each xs = omega (arith, length-all [] xs)

  -- one node more
  pub all-push : (xs : List Node) (node : Node) → all_from nothing rule [] (xs ++ node ∷ []) ≡ all_from nothing rule [] xs ++ had nothing rule (all_from nothing rule [] xs) node ∷ []
  all-push xs node = all-append [] xs (node ∷ [])

  -- what a node in front has
  pub front-kept : (xs ys : List Node) (i : ℕ) → i < length xs → get_or (all_from nothing rule [] (xs ++ ys)) i nothing ≡ get_or (all_from nothing rule [] xs) i nothing
  front-kept xs ys i below =
      ap (λ (all : List A). get_or all i nothing) (all-append [] xs ys)
      ∙ all-kept (all_from nothing rule [] xs) ys i nothing (omega (arith, below, length-each xs))

  pub input-kept : (xs ys : List Node) (o : Option ℕ) → IsAmong (length xs) o → of_input nothing (all_from nothing rule [] (xs ++ ys)) o ≡ of_input nothing (all_from nothing rule [] xs) o
  input-kept xs ys None among = refl
  input-kept xs ys (Some i) among = front-kept xs ys i among

  -- so a node of the front has the same behind more nodes
  pub had-kept : (xs ys : List Node) (node : Node) → IsAmong (length xs) (left_input node) → IsAmong (length xs) (right_input node)
      → had nothing rule (all_from nothing rule [] (xs ++ ys)) node ≡ had nothing rule (all_from nothing rule [] xs) node
  had-kept xs ys node left right = ap₂ (λ (a b : A). rule node a b) (input-kept xs ys (left_input node) left) (input-kept xs ys (right_input node) right)

  -- what the last node has
  pub last-had : (xs : List Node) (node : Node) → get_or (all_from nothing rule [] (xs ++ node ∷ [])) (length xs) nothing ≡ had nothing rule (all_from nothing rule [] xs) node
  last-had xs node =
      ap (λ (all : List A). get_or all (length xs) nothing) (all-push xs node)
      ∙ get_or_at (all_from nothing rule [] xs) (had nothing rule (all_from nothing rule [] xs) node) [] nothing (length xs) (length-each xs)

  -- what a node has is told by what its inputs have
  pub all-at : (xs : List Node) (node : Node) (ys : List Node) → IsAmong (length xs) (left_input node) → IsAmong (length xs) (right_input node)
      → get_or (all_from nothing rule [] (xs ++ node ∷ ys)) (length xs) nothing ≡ had nothing rule (all_from nothing rule [] (xs ++ node ∷ ys)) node
  all-at xs node ys left right =
      ap (λ (all : List A). get_or all (length xs) nothing) (all-append [] xs (node ∷ ys))
      ∙ (all-kept (all_from nothing rule [] xs ++ had nothing rule (all_from nothing rule [] xs) node ∷ []) ys (length xs) nothing (omega (arith, length-each xs, length-append (all_from nothing rule [] xs) (had nothing rule (all_from nothing rule [] xs) node ∷ [])))
      ∙ (get_or_at (all_from nothing rule [] xs) (had nothing rule (all_from nothing rule [] xs) node) [] nothing (length xs) (length-each xs)
      ∙ sym (had-kept xs (node ∷ ys) node left right)))
