-- An expression is read from its numbers, two and two, onto a stack of expressions and one of lists of arguments.
use Rattle.std.proofs.Common.{◌≡◌, ◌∙◌, ℕ, ℤ, pos, List, [], ◌∷◌, ◌++◌, get_or, refl, sym, ap, append_assoc}
use Rattle.std.proofs.lemmas.List.{append-nil}
use Rattle.scalar_ops.specs.declared.op.Op.{Op}
use Rattle.scalar_ops.specs.declared.op.Op.TheVariants.{GetBegin, GetEnd, GetLength, GetText, CombineSpans, SpanBetween, LeftContext, RightContext, LeftContextTok, RightContextTok, Follows, FollowsTok, Overlaps, Contains, Equals, GreaterThan, NotNull, ContainsRegex, MatchesRegex, ContainsDict, MatchesDict, Not, And, Or}
use Rattle.scalar_ops.specs.Expressions.{Term, Terms, column, number, string, call, none, more, list_of, terms}
use Rattle.share_plan.specs.ExprWords.{op_parts, op_words, text_words, term_words, argument_words, list_words}

abbrev pub nat_of : ℤ → ℕ
nat_of (pos n) = n
nat_of z = 0

abbrev operators : ℤ → ℤ → List Op
operators low high =
    GetBegin ∷ GetEnd ∷ GetLength ∷ GetText ∷ CombineSpans ∷ SpanBetween ∷ LeftContext ∷ RightContext ∷ LeftContextTok ∷ RightContextTok
    ∷ Follows low high ∷ FollowsTok low high ∷ Overlaps ∷ Contains ∷ Equals ∷ GreaterThan ∷ NotNull
    ∷ ContainsRegex (nat_of low) ∷ MatchesRegex (nat_of low) ∷ ContainsDict (nat_of low) ∷ MatchesDict (nat_of low) ∷ Not ∷ And ∷ Or ∷ []

abbrev op_of : ℤ → ℤ → ℤ → Op
op_of tag low high = get_or (operators low high) (nat_of tag) Or

op-read : (op : Op) → op_of (op_parts op).0 (op_parts op).1 (op_parts op).2 ≡ op
op-read GetBegin = refl
op-read GetEnd = refl
op-read GetLength = refl
op-read GetText = refl
op-read CombineSpans = refl
op-read SpanBetween = refl
op-read LeftContext = refl
op-read RightContext = refl
op-read LeftContextTok = refl
op-read RightContextTok = refl
op-read (Follows min max) = refl
op-read (FollowsTok min max) = refl
op-read Overlaps = refl
op-read Contains = refl
op-read Equals = refl
op-read GreaterThan = refl
op-read NotNull = refl
op-read (ContainsRegex pattern) = refl
op-read (MatchesRegex pattern) = refl
op-read (ContainsDict d) = refl
op-read (MatchesDict d) = refl
op-read Not = refl
op-read And = refl
op-read Or = refl

-- the bounds of the next operator, the expressions, and the lists of arguments, the last first
pub record Stacks : Type 0 where
  pub low : ℤ
  pub high : ℤ
  pub exprs : List Term
  pub lists : List (List Term)

-- no bounds yet
abbrev stacks : List Term → List (List Term) → Stacks
stacks ts lists = record { low = pos 0; high = pos 0; exprs = ts; lists = lists }

abbrev byte_read : ℤ → List Term → List (List Term) → Stacks
byte_read b (string bytes ∷ ts) lists = stacks (string (bytes ++ nat_of b ∷ []) ∷ ts) lists
byte_read b ts lists = stacks ts lists

abbrev mark_read : List Term → List (List Term) → Stacks
mark_read (t ∷ ts) (args ∷ lists) = stacks ts ((args ++ t ∷ []) ∷ lists)
mark_read ts lists = stacks ts lists

abbrev op_read : ℤ → ℤ → ℤ → List Term → List (List Term) → Stacks
op_read tag low high ts (args ∷ lists) = stacks (call (op_of tag low high) (terms args) ∷ ts) lists
op_read tag low high ts [] = stacks ts []

-- what two numbers do, by the first: the table
abbrev all_reads : ℤ → Stacks → List Stacks
all_reads v s =
    stacks (column (nat_of v) ∷ s.exprs) s.lists
    ∷ stacks (number v ∷ s.exprs) s.lists
    ∷ stacks (string [] ∷ s.exprs) s.lists
    ∷ byte_read v s.exprs s.lists
    ∷ mark_read s.exprs s.lists
    ∷ stacks s.exprs ([] ∷ s.lists)
    ∷ record { low = v; high = s.high; exprs = s.exprs; lists = s.lists }
    ∷ record { low = s.low; high = v; exprs = s.exprs; lists = s.lists }
    ∷ op_read v s.low s.high s.exprs s.lists
    ∷ []

abbrev read : List ℤ → Stacks → Stacks
read (tag ∷ v ∷ words) s = read words (get_or (all_reads v s) (nat_of tag) s)
read words s = s

read-text : (bytes done : List ℕ) (words : List ℤ) (ts : List Term) (lists : List (List Term))
    → read (text_words bytes ++ words) (stacks (string done ∷ ts) lists) ≡ read words (stacks (string (done ++ bytes) ∷ ts) lists)
read-text [] done words ts lists = ap (λ (bs : List ℕ). read words (stacks (string bs ∷ ts) lists)) (sym (append-nil done))
read-text (b ∷ bytes) done words ts lists =
    read-text bytes (done ++ b ∷ []) words ts lists
    ∙ ap (λ (bs : List ℕ). read words (stacks (string bs ∷ ts) lists)) (append_assoc done (b ∷ []) bytes)

terms-list_of : (args : Terms) → terms (list_of args) ≡ args
terms-list_of none = refl
terms-list_of (more t ts) = ap (λ (args : Terms). more t args) (terms-list_of ts)

abbrev mark : List ℤ
mark = pos 4 ∷ pos 0 ∷ []

mutual
  read-term : (t : Term) (words : List ℤ) (ts : List Term) (lists : List (List Term)) → read (term_words t ++ words) (stacks ts lists) ≡ read words (stacks (t ∷ ts) lists)
  read-term (column n) words ts lists = refl
  read-term (number n) words ts lists = refl
  read-term (string bytes) words ts lists = read-text bytes [] words ts lists
  read-term (call op args) words ts lists =
      ap (λ (all : List ℤ). read all (stacks ts ([] ∷ lists))) (append_assoc (argument_words args) (op_words op) words)
      ∙ (read-arguments args (op_words op ++ words) ts [] lists
      ∙ (ap (λ (o : Op). read words (stacks (call o (terms (list_of args)) ∷ ts) lists)) (op-read op)
      ∙ ap (λ (given : Terms). read words (stacks (call op given ∷ ts) lists)) (terms-list_of args)))

  read-arguments : (args : Terms) (words : List ℤ) (ts done : List Term) (lists : List (List Term))
      → read (argument_words args ++ words) (stacks ts (done ∷ lists)) ≡ read words (stacks ts ((done ++ list_of args) ∷ lists))
  read-arguments none words ts done lists = ap (λ (args : List Term). read words (stacks ts (args ∷ lists))) (sym (append-nil done))
  read-arguments (more t args) words ts done lists =
      let rest = argument_words args ++ words in
      ap (λ (all : List ℤ). read all (stacks ts (done ∷ lists)))
      (append_assoc (term_words t ++ mark) (argument_words args) words ∙ append_assoc (term_words t) mark rest)
      ∙ (read-term t (mark ++ rest) ts (done ∷ lists)
      ∙ (read-arguments args words ts (done ++ t ∷ []) lists
      ∙ ap (λ (all : List Term). read words (stacks ts (all ∷ lists))) (append_assoc done (t ∷ []) (list_of args))))

read-list : (all : List Term) (ts done : List Term) (lists : List (List Term)) → read (list_words all) (stacks ts (done ∷ lists)) ≡ stacks ts ((done ++ all) ∷ lists)
read-list [] ts done lists = ap (λ (args : List Term). stacks ts (args ∷ lists)) (sym (append-nil done))
read-list (t ∷ all) ts done lists =
    ap (λ (words : List ℤ). read words (stacks ts (done ∷ lists))) (append_assoc (term_words t) mark (list_words all))
    ∙ (read-term t (mark ++ list_words all) ts (done ∷ lists)
    ∙ (read-list all ts (done ++ t ∷ []) lists
    ∙ ap (λ (args : List Term). stacks ts (args ∷ lists)) (append_assoc done (t ∷ []) all)))

abbrev first_expr : List Term → Term
first_expr [] = number (pos 0)
first_expr (t ∷ ts) = t

abbrev first_list : List (List Term) → List Term
first_list [] = []
first_list (ts ∷ lists) = ts

-- an expression, and a list of them
abbrev pub term_in : List ℤ → Term
term_in words = first_expr (read words (stacks [] [])).exprs

abbrev pub terms_in : List ℤ → List Term
terms_in words = first_list (read words (stacks [] ([] ∷ []))).lists

pub term-read : (t : Term) → term_in (term_words t) ≡ t
term-read t =
    ap (λ (words : List ℤ). term_in words) (sym (append-nil (term_words t)))
    ∙ ap (λ (s : Stacks). first_expr s.exprs) (read-term t [] [] [])

pub terms-read : (ts : List Term) → terms_in (list_words ts) ≡ ts
terms-read ts = ap (λ (s : Stacks). first_list s.lists) (read-list ts [] [] [])
