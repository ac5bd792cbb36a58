-- Expressions as lists of numbers, two and two: what stands there, and which. No two expressions have one list.
use Rattle.std.specs.Prelude.{ℕ, ℤ, pos, List, [], ◌∷◌, ◌++◌}
use Rattle.std.specs.List.{flat_map}
use Rattle.scalar_ops.specs.declared.op.Op.{Op}
use Rattle.scalar_ops.specs.declared.op.Op.TheVariants.{GetBegin, GetEnd, GetLength, GetText, CombineSpans, SpanBetween, LeftContext, RightContext, LeftContextTok, RightContextTok, Follows, FollowsTok, Overlaps, Contains, Equals, GreaterThan, NotNull, ContainsRegex, MatchesRegex, ContainsDict, MatchesDict, Not, And, Or}
use Rattle.scalar_ops.specs.Expressions.{Term, Terms, column, number, string, call, none, more}

-- the operator's number in this table, with its bounds or its number in a table of patterns or dictionaries
abbrev pub op_parts : Op → ℤ × ℤ × ℤ
op_parts GetBegin = (pos 0, pos 0, pos 0)
op_parts GetEnd = (pos 1, pos 0, pos 0)
op_parts GetLength = (pos 2, pos 0, pos 0)
op_parts GetText = (pos 3, pos 0, pos 0)
op_parts CombineSpans = (pos 4, pos 0, pos 0)
op_parts SpanBetween = (pos 5, pos 0, pos 0)
op_parts LeftContext = (pos 6, pos 0, pos 0)
op_parts RightContext = (pos 7, pos 0, pos 0)
op_parts LeftContextTok = (pos 8, pos 0, pos 0)
op_parts RightContextTok = (pos 9, pos 0, pos 0)
op_parts (Follows min max) = (pos 10, min, max)
op_parts (FollowsTok min max) = (pos 11, min, max)
op_parts Overlaps = (pos 12, pos 0, pos 0)
op_parts Contains = (pos 13, pos 0, pos 0)
op_parts Equals = (pos 14, pos 0, pos 0)
op_parts GreaterThan = (pos 15, pos 0, pos 0)
op_parts NotNull = (pos 16, pos 0, pos 0)
op_parts (ContainsRegex pattern) = (pos 17, pos pattern, pos 0)
op_parts (MatchesRegex pattern) = (pos 18, pos pattern, pos 0)
op_parts (ContainsDict d) = (pos 19, pos d, pos 0)
op_parts (MatchesDict d) = (pos 20, pos d, pos 0)
op_parts Not = (pos 21, pos 0, pos 0)
op_parts And = (pos 22, pos 0, pos 0)
op_parts Or = (pos 23, pos 0, pos 0)

abbrev pub op_words : Op → List ℤ
op_words op = pos 6 ∷ (op_parts op).1 ∷ pos 7 ∷ (op_parts op).2 ∷ pos 8 ∷ (op_parts op).0 ∷ []

-- the bytes of a text
abbrev pub text_words : List ℕ → List ℤ
text_words bytes = flat_map (λ byte. pos 3 ∷ pos byte ∷ []) bytes

abbrev mutual
  -- a column, an integer, a text, or the arguments of an operator, followed by it
  pub term_words : Term → List ℤ
  term_words (column n) = pos 0 ∷ pos n ∷ []
  term_words (number n) = pos 1 ∷ n ∷ []
  term_words (string bytes) = pos 2 ∷ pos 0 ∷ text_words bytes
  term_words (call op args) = pos 5 ∷ pos 0 ∷ (argument_words args ++ op_words op)

  -- a mark behind each argument
  pub argument_words : Terms → List ℤ
  argument_words none = []
  argument_words (more t ts) = (term_words t ++ pos 4 ∷ pos 0 ∷ []) ++ argument_words ts

-- a mark behind each expression
abbrev pub list_words : List Term → List ℤ
list_words ts = flat_map (λ t. term_words t ++ pos 4 ∷ pos 0 ∷ []) ts
