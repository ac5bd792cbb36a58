-- A program file's bytes have one fault at most: what is found first is the only one.
use Rattle.std.proofs.Common.{◌≡◌, ℕ, ◌+◌, ◌<◌, ◌≤◌, inl, inr, List, [], Option, Some, unwrap_or, length, ap, ap₂, sym, subst, ◌∙◌, refl, arith}
use Rattle.std.specs.Str.{IsUtf8, IsValidUpTo}
use Rattle.std.specs.Str.Lossy.{utf8_valid_len}
use Rattle.std.proofs.lemmas.Option.{none-some}
use Rattle.std.proofs.lemmas.Str.{utf8_valid_len-IsUtf8, utf8_valid_len-IsValidUpTo}
use Rattle.aql_lexer.specs.Kinds.{Kind, Token}
use Rattle.aql_lexer.specs.Reading.{IsFault, IsDecided}
use Rattle.aql_lexer.specs.declared.token.LexFault.{LexFault}
use Rattle.aql_parser.specs.declared.parsing.SyntaxFault.{SyntaxFault}
use Rattle.aql_parser.specs.Faults.{kinds_in, IsSyntaxFault}
use Rattle.aql_parser.specs.Faults as parsing
use Rattle.aql_parser.specs.Nesting.{IsNesting, NestsWithin, nesting_limit}
use Rattle.aql_syntax.specs.Trees.{Statement}
use Rattle.aql_syntax.specs.Programs.{AreTokensOf, placed_in}
use Rattle.aqlx_top.specs.Limits.{program_limit}
use Rattle.aqlx_top.specs.declared.status.ProgramFault.{ProgramFault}
use Rattle.aqlx_top.specs.declared.status.ProgramFault.TheVariants.{Text, Large, Lex, Syntax, Name, Mistyped}
use Rattle.aqlx_top.specs.declared.status.What.TheVariants.{Bytes, Statements, Nesting}
use Rattle.aqlx_top.specs.ProgramFaults.{HasFault, HasOnlyFault, begin_of, IsMistyped, AreOneFault, HasTooMany, IsTooDeep, IsFaultless}
use Rattle.view_graph.specs.Answers.{IsNameFault, IsNameDecided, IsResolved}
use Rattle.aql_types.specs.declared.fault.TypeFault.{TypeFault}
use Rattle.clause_types.specs.declared.fault.TypeRule.{TypeRule}
use Rattle.clause_types.specs.Faults.{first}
use Rattle.clause_types.specs.Known.{known_of_program}
use Rattle.aql_types.specs.Programs.{IsTyped, IsTypeFault, faults_of_program}
use Rattle.aql_tables.specs.Programs.{lists_of}
use Rattle.view_graph.specs.declared.fault.NameFault.{NameFault}
use Rattle.aqlx_top.specs.ProgramTexts.{ReadsAs, IsWithinLimits, HoldsStatements}
use Rattle.aqlx_top.specs.Run.{Typed}

-- ---- bytes and text

-- bytes that stop being text are none
not_text : (bytes : List ℕ) (place : ℕ) → IsUtf8 bytes → IsValidUpTo bytes place → ⊥
not_text bytes place text stops =
    let whole : utf8_valid_len bytes ≡ length bytes = utf8_valid_len-IsUtf8 bytes text in
    let part : utf8_valid_len bytes ≡ place = utf8_valid_len-IsValidUpTo bytes place stops in
    let short = stops.short in
    absurd (omega arith)

one_place : (bytes : List ℕ) (p q : ℕ) → IsValidUpTo bytes p → IsValidUpTo bytes q → q ≡ p
one_place bytes p q stops other = sym (utf8_valid_len-IsValidUpTo bytes q other) ∙ utf8_valid_len-IsValidUpTo bytes p stops

-- more bytes than a program has are that fault alone
large_alone : (bytes : List ℕ) → program_limit < length bytes → (other : ProgramFault) → HasFault bytes other
    → other ≡ Large Bytes (program_limit + 1)
large_alone bytes large (Large Bytes number) h = ap (Large Bytes) h.1
large_alone bytes large (Text place) h = let small = h.0 in absurd (omega arith)
large_alone bytes large (Lex fault) h = let small = h.0 in absurd (omega arith)
large_alone bytes large (Large Statements number) h = let small = h.1.small in absurd (omega arith)
large_alone bytes large (Large Nesting number) h = let small = h.1.small in absurd (omega arith)
large_alone bytes large (Syntax fault) h = let small = h.1.small in absurd (omega arith)
large_alone bytes large (Name fault) h = let small = h.1.reads.small in absurd (omega arith)
large_alone bytes large (Mistyped statement place rule) h = let small = h.1.reads.small in absurd (omega arith)

pub only_large : (bytes : List ℕ) → program_limit < length bytes → HasOnlyFault bytes (Large Bytes (program_limit + 1))
only_large bytes large = record { has = (large, refl); only = λ other h. inl (large_alone bytes large other h) }

text_alone : (bytes : List ℕ) (place : ℕ) → length bytes ≤ program_limit → IsValidUpTo bytes place → (other : ProgramFault) → HasFault bytes other
    → other ≡ Text place
text_alone bytes place small stops (Large Bytes number) h = let large = h.0 in absurd (omega arith)
text_alone bytes place small stops (Text other) h = ap Text (one_place bytes place other stops h.1)
text_alone bytes place small stops (Lex fault) h = absurd (not_text bytes place h.1 stops)
text_alone bytes place small stops (Large Statements number) h = absurd (not_text bytes place h.1.text stops)
text_alone bytes place small stops (Large Nesting number) h = absurd (not_text bytes place h.1.text stops)
text_alone bytes place small stops (Syntax fault) h = absurd (not_text bytes place h.1.text stops)
text_alone bytes place small stops (Name fault) h = absurd (not_text bytes place h.1.reads.text stops)
text_alone bytes place small stops (Mistyped number other rule) h = absurd (not_text bytes place h.1.reads.text stops)

pub only_text : (bytes : List ℕ) (place : ℕ) → length bytes ≤ program_limit → IsValidUpTo bytes place → HasOnlyFault bytes (Text place)
only_text bytes place small stops = record { has = (small, stops); only = λ other h. inl (text_alone bytes place small stops other h) }

-- ---- tokens

lex_alone : (bytes : List ℕ) (fault : LexFault) → length bytes ≤ program_limit → IsUtf8 bytes → IsDecided bytes → IsFault bytes fault.place
    → (other : ProgramFault) → HasFault bytes other → other ≡ Lex fault
lex_alone bytes fault small text decided at (Large Bytes number) h = let large = h.0 in absurd (omega arith)
lex_alone bytes fault small text decided at (Text place) h = absurd (not_text bytes place text h.1)
lex_alone bytes fault small text decided at (Lex other) h =
    ap (λ (place : ℕ). Lex (record { place = place })) (decided.one_fault other.place fault.place h.2 at)
lex_alone bytes fault small text decided at (Large Statements number) h = absurd (decided.not_both h.0 fault.place h.1.reading at)
lex_alone bytes fault small text decided at (Large Nesting number) h = absurd (decided.not_both h.0 fault.place h.1.reading at)
lex_alone bytes fault small text decided at (Syntax other) h = absurd (decided.not_both h.0 fault.place h.1.reading at)
lex_alone bytes fault small text decided at (Name other) h = absurd (decided.not_both h.1.tokens fault.place h.1.reads.reading at)
lex_alone bytes fault small text decided at (Mistyped statement place rule) h = absurd (decided.not_both h.1.tokens fault.place h.1.reads.reading at)

pub only_lex : (bytes : List ℕ) (fault : LexFault) → length bytes ≤ program_limit → IsUtf8 bytes → IsDecided bytes → IsFault bytes fault.place
    → HasOnlyFault bytes (Lex fault)
only_lex bytes fault small text decided at = record { has = (small, text, at); only = λ other h. inl (lex_alone bytes fault small text decided at other h) }

-- what all faults of a text with these statements are: a fault of the statements
abbrev pub HasStatementFault : List Token → List Statement → ProgramFault → Type 0
HasStatementFault tokens statements (Name fault) = IsNameFault statements fault
HasStatementFault tokens statements (Mistyped statement place rule) = IsMistyped tokens statements statement place rule
HasStatementFault tokens statements _ = ⊥

-- what all faults of a text with these tokens are: a fault of the tokens
abbrev pub HasTokenFault : List ℕ → List Token → ProgramFault → Type 0
HasTokenFault bytes tokens (Large Statements number) = HasTooMany (kinds_in tokens) number
HasTokenFault bytes tokens (Large Nesting number) = IsTooDeep (kinds_in tokens) number
HasTokenFault bytes tokens (Syntax fault) = IsWithinLimits (kinds_in tokens) × IsSyntaxFault tokens fault.statement fault.line
HasTokenFault bytes tokens (Name fault) =
    IsWithinLimits (kinds_in tokens)
    × ((statements : List Statement) × AreTokensOf (kinds_in tokens) statements × (placed_in (kinds_in tokens) statements ≡ statements) × HasStatementFault tokens statements (Name fault))
HasTokenFault bytes tokens (Mistyped statement place rule) =
    IsWithinLimits (kinds_in tokens)
    × ((statements : List Statement) × AreTokensOf (kinds_in tokens) statements × (placed_in (kinds_in tokens) statements ≡ statements) × HasStatementFault tokens statements (Mistyped statement place rule))
HasTokenFault bytes tokens _ = ⊥

same_tokens : (bytes : List ℕ) (tokens others : List Token) → IsDecided bytes → ReadsAs bytes tokens → ReadsAs bytes others → others ≡ tokens
same_tokens bytes tokens others decided reads read = decided.one_reading others tokens read.reading reads.reading

token_fault : (bytes : List ℕ) (tokens : List Token) → IsDecided bytes → ReadsAs bytes tokens → (other : ProgramFault) → HasFault bytes other
    → HasTokenFault bytes tokens other
token_fault bytes tokens decided reads (Large Bytes number) h = let large = h.0 in let small = reads.small in absurd (omega arith)
token_fault bytes tokens decided reads (Text place) h = absurd (not_text bytes place reads.text h.1)
token_fault bytes tokens decided reads (Lex fault) h = absurd (decided.not_both tokens fault.place reads.reading h.2)
token_fault bytes tokens decided reads (Large Statements number) h =
    subst (λ (ts : List Token). HasTooMany (kinds_in ts) number) (same_tokens bytes tokens h.0 decided reads h.1) h.2
token_fault bytes tokens decided reads (Large Nesting number) h =
    subst (λ (ts : List Token). IsTooDeep (kinds_in ts) number) (same_tokens bytes tokens h.0 decided reads h.1) h.2
token_fault bytes tokens decided reads (Syntax fault) h =
    subst (λ (ts : List Token). IsWithinLimits (kinds_in ts) × IsSyntaxFault ts fault.statement fault.line) (same_tokens bytes tokens h.0 decided reads h.1) (h.2, h.3)
token_fault bytes tokens decided reads (Name fault) h =
    subst (λ (ts : List Token). HasTokenFault bytes ts (Name fault)) (same_tokens bytes tokens h.1.tokens decided reads h.1.reads)
    (h.1.within, (h.0, h.1.trees, h.1.placed, h.2))
token_fault bytes tokens decided reads (Mistyped statement place rule) h =
    subst (λ (ts : List Token). HasTokenFault bytes ts (Mistyped statement place rule)) (same_tokens bytes tokens h.1.tokens decided reads h.1.reads)
    (h.1.within, (h.0, h.1.trees, h.1.placed, h.2))

-- ---- sizes

-- within the limit the nesting isn't past it
not_deeper : (kinds : List Kind) (number : ℕ) → NestsWithin nesting_limit kinds → IsNesting kinds number → nesting_limit < number → ⊥
not_deeper kinds number within nesting deep =
    let least : number ≤ within.0 = nesting.least within.0 within.1.within in
    let low = within.2 in
    absurd (omega arith)

one_nesting : (kinds : List Kind) (m n : ℕ) → IsNesting kinds m → IsNesting kinds n → m ≡ n
one_nesting kinds m n a b = let low : m ≤ n = a.least n b.within in let high : n ≤ m = b.least m a.within in omega arith

many_alone : (bytes : List ℕ) (tokens : List Token) (number : ℕ) → HasTooMany (kinds_in tokens) number → (other : ProgramFault) → HasTokenFault bytes tokens other
    → other ≡ Large Statements number
many_alone bytes tokens number many (Large Statements other) h = ap (Large Statements) (h.0 ∙ sym many.0)
many_alone bytes tokens number many (Large Nesting other) h = let few = h.0 in let e = many.0 in let long = many.1 in absurd (omega arith)
many_alone bytes tokens number many (Syntax fault) h = let few = h.0.statements in let e = many.0 in let long = many.1 in absurd (omega arith)
many_alone bytes tokens number many (Name fault) h = let few = h.0.statements in let e = many.0 in let long = many.1 in absurd (omega arith)
many_alone bytes tokens number many (Mistyped statement place rule) h = let few = h.0.statements in let e = many.0 in let long = many.1 in absurd (omega arith)
many_alone bytes tokens number many (Text place) h = absurd h
many_alone bytes tokens number many (Lex fault) h = absurd h
many_alone bytes tokens number many (Large Bytes other) h = absurd h

deep_alone : (bytes : List ℕ) (tokens : List Token) (number : ℕ) → IsTooDeep (kinds_in tokens) number → (other : ProgramFault) → HasTokenFault bytes tokens other
    → other ≡ Large Nesting number
deep_alone bytes tokens number deep (Large Statements other) h = let few = deep.0 in let e = h.0 in let long = h.1 in absurd (omega arith)
deep_alone bytes tokens number deep (Large Nesting other) h = ap (Large Nesting) (one_nesting (kinds_in tokens) other number h.1 deep.1)
deep_alone bytes tokens number deep (Syntax fault) h = absurd (not_deeper (kinds_in tokens) number h.0.nesting deep.1 deep.2)
deep_alone bytes tokens number deep (Name fault) h = absurd (not_deeper (kinds_in tokens) number h.0.nesting deep.1 deep.2)
deep_alone bytes tokens number deep (Mistyped statement place rule) h = absurd (not_deeper (kinds_in tokens) number h.0.nesting deep.1 deep.2)
deep_alone bytes tokens number deep (Text place) h = absurd h
deep_alone bytes tokens number deep (Lex fault) h = absurd h
deep_alone bytes tokens number deep (Large Bytes other) h = absurd h

pub only_many : (bytes : List ℕ) (tokens : List Token) (number : ℕ) → IsDecided bytes → ReadsAs bytes tokens → HasTooMany (kinds_in tokens) number
    → HasOnlyFault bytes (Large Statements number)
only_many bytes tokens number decided reads many =
    record { has = (tokens, reads, many); only = λ other h. inl (many_alone bytes tokens number many other (token_fault bytes tokens decided reads other h)) }

pub only_deep : (bytes : List ℕ) (tokens : List Token) (number : ℕ) → IsDecided bytes → ReadsAs bytes tokens → IsTooDeep (kinds_in tokens) number
    → HasOnlyFault bytes (Large Nesting number)
only_deep bytes tokens number decided reads deep =
    record { has = (tokens, reads, deep); only = λ other h. inl (deep_alone bytes tokens number deep other (token_fault bytes tokens decided reads other h)) }

-- ---- statements

syntax_alone : (bytes : List ℕ) (tokens : List Token) (fault : SyntaxFault) → IsWithinLimits (kinds_in tokens) → parsing.IsDecided tokens
    → IsSyntaxFault tokens fault.statement fault.line → (other : ProgramFault) → HasTokenFault bytes tokens other → other ≡ Syntax fault
syntax_alone bytes tokens fault within decided found (Large Statements number) h =
    let few = within.statements in let e = h.0 in let long = h.1 in absurd (omega arith)
syntax_alone bytes tokens fault within decided found (Large Nesting number) h = absurd (not_deeper (kinds_in tokens) number within.nesting h.1 h.2)
syntax_alone bytes tokens fault within decided found (Syntax other) h =
    let one = decided.one_fault other.statement fault.statement other.line fault.line h.1 found in
    ap₂ (λ (s l : ℕ). Syntax (record { statement = s; line = l })) one.0 one.1
syntax_alone bytes tokens fault within decided found (Name other) h = absurd (decided.not_both h.1.0 fault.statement fault.line h.1.1 found)
syntax_alone bytes tokens fault within decided found (Mistyped statement place rule) h = absurd (decided.not_both h.1.0 fault.statement fault.line h.1.1 found)
syntax_alone bytes tokens fault within decided found (Text place) h = absurd h
syntax_alone bytes tokens fault within decided found (Lex other) h = absurd h
syntax_alone bytes tokens fault within decided found (Large Bytes number) h = absurd h

pub only_syntax : (bytes : List ℕ) (tokens : List Token) (fault : SyntaxFault) → IsDecided bytes → ReadsAs bytes tokens → IsWithinLimits (kinds_in tokens)
    → parsing.IsDecided tokens → IsSyntaxFault tokens fault.statement fault.line → HasOnlyFault bytes (Syntax fault)
only_syntax bytes tokens fault decided reads within one found = record {
  has = (tokens, reads, within, found);
  only = λ other h. inl (syntax_alone bytes tokens fault within one found other (token_fault bytes tokens decided reads other h));
}

-- the statements of tokens with their places are one list
same_statements : (tokens : List Token) (xs ys : List Statement) → parsing.IsDecided tokens → AreTokensOf (kinds_in tokens) xs → AreTokensOf (kinds_in tokens) ys
    → placed_in (kinds_in tokens) xs ≡ xs → placed_in (kinds_in tokens) ys ≡ ys → ys ≡ xs
same_statements tokens xs ys one trees others placed put = sym put ∙ one.one_list ys xs others trees ∙ placed

-- what all faults of tokens with these statements are: a fault of the statements
statement_fault : (bytes : List ℕ) (held : List Statement) (holds : HoldsStatements bytes held) → parsing.IsDecided holds.tokens
    → (other : ProgramFault) → HasTokenFault bytes holds.tokens other → HasStatementFault holds.tokens held other
statement_fault bytes held holds one (Large Statements number) h =
    let few = holds.within.statements in let e = h.0 in let long = h.1 in absurd (omega arith)
statement_fault bytes held holds one (Large Nesting number) h = absurd (not_deeper (kinds_in holds.tokens) number holds.within.nesting h.1 h.2)
statement_fault bytes held holds one (Syntax fault) h = absurd (one.not_both held fault.statement fault.line holds.trees h.1)
statement_fault bytes held holds one (Name fault) h =
    let same : h.1.0 ≡ held = same_statements holds.tokens held h.1.0 one holds.trees h.1.1 holds.placed h.1.2 in
    subst (λ (xs : List Statement). HasStatementFault holds.tokens xs (Name fault)) same h.1.3
statement_fault bytes held holds one (Mistyped statement place rule) h =
    let same : h.1.0 ≡ held = same_statements holds.tokens held h.1.0 one holds.trees h.1.1 holds.placed h.1.2 in
    subst (λ (xs : List Statement). HasStatementFault holds.tokens xs (Mistyped statement place rule)) same h.1.3
statement_fault bytes held holds one (Text place) h = absurd h
statement_fault bytes held holds one (Lex fault) h = absurd h
statement_fault bytes held holds one (Large Bytes number) h = absurd h

-- ---- names

name_alone : (tokens : List Token) (held : List Statement) (fault : NameFault) → IsNameDecided held → IsNameFault held fault
    → (other : ProgramFault) → HasStatementFault tokens held other → AreOneFault other (Name fault)
name_alone tokens held fault decided found (Name other) h =
    elim (decided.one_fault other fault h found) [ inl same ↦ inl (ap Name same) | inr cycles ↦ inr cycles ]
name_alone tokens held fault decided found (Mistyped statement place rule) h = absurd (decided.not_both h.order fault h.resolved found)
name_alone tokens held fault decided found (Large what number) h = absurd h
name_alone tokens held fault decided found (Syntax other) h = absurd h
name_alone tokens held fault decided found (Text place) h = absurd h
name_alone tokens held fault decided found (Lex other) h = absurd h

pub only_name : (bytes : List ℕ) (held : List Statement) (fault : NameFault) → IsDecided bytes → (holds : HoldsStatements bytes held) → parsing.IsDecided holds.tokens
    → IsNameDecided held → IsNameFault held fault → HasOnlyFault bytes (Name fault)
only_name bytes held fault decided holds one names found = record {
  has = (held, holds, found);
  only = λ other h. name_alone holds.tokens held fault names found other (statement_fault bytes held holds one other (token_fault bytes holds.tokens decided holds.reads other h));
}

-- ---- types

the_first : {X : Type 0} (xs : List X) (x y : X) → first xs ≡ Some x → first xs ≡ Some y → y ≡ x
the_first {X = X} xs x y a b = ap (λ (o : Option X). unwrap_or o x) (sym b ∙ a)

type_alone : (tokens : List Token) (held : List Statement) (number place : ℕ) (rule : TypeRule) → IsNameDecided held → IsMistyped tokens held number place rule
    → (other : ProgramFault) → HasStatementFault tokens held other → other ≡ Mistyped number place rule
type_alone tokens held number place rule decided found (Name fault) h = absurd (decided.not_both found.order fault found.resolved h)
type_alone tokens held number place rule decided found (Mistyped other_number other_place other_rule) h =
    let order : h.order ≡ found.order = decided.one_order h.order found.order h.resolved found.resolved in
    let fault : h.fault ≡ found.fault =
    the_first (faults_of_program (known_of_program held) held found.order) found.fault h.fault found.first
    (subst (λ (o : List ℕ). IsTypeFault (known_of_program held) held o h.fault) order h.first) in
    let a : other_number ≡ number = h.statement_is ∙ ap (λ (f : TypeFault). f.statement) fault ∙ sym found.statement_is in
    let b : other_place ≡ place = h.place_is ∙ ap (λ (f : TypeFault). begin_of tokens f.at) fault ∙ sym found.place_is in
    let r : other_rule ≡ rule = h.rule_is ∙ ap (λ (f : TypeFault). f.rule) fault ∙ sym found.rule_is in
    ap (λ (n : ℕ). Mistyped n other_place other_rule) a ∙ ap (λ (n : ℕ). Mistyped number n other_rule) b ∙ ap (Mistyped number place) r
type_alone tokens held number place rule decided found (Large what other) h = absurd h
type_alone tokens held number place rule decided found (Syntax other) h = absurd h
type_alone tokens held number place rule decided found (Text other) h = absurd h
type_alone tokens held number place rule decided found (Lex other) h = absurd h

pub only_type : (bytes : List ℕ) (held : List Statement) (number place : ℕ) (rule : TypeRule) → IsDecided bytes → (holds : HoldsStatements bytes held)
    → parsing.IsDecided holds.tokens → IsNameDecided held → IsMistyped holds.tokens held number place rule → HasOnlyFault bytes (Mistyped number place rule)
only_type bytes held number place rule decided holds one names found = record {
  has = (held, holds, found);
  only = λ other h. inl (type_alone holds.tokens held number place rule names found other (statement_fault bytes held holds one other (token_fault bytes holds.tokens decided holds.reads other h)));
}

faultless : (tokens : List Token) (held : List Statement) (order : List ℕ) → IsNameDecided held → IsResolved held order → faults_of_program (known_of_program held) held order ≡ []
    → (other : ProgramFault) → HasStatementFault tokens held other → ⊥
faultless tokens held order decided resolved no_fault (Name fault) h = decided.not_both order fault resolved h
faultless tokens held order decided resolved no_fault (Mistyped number place rule) h =
    let same : h.order ≡ order = decided.one_order h.order order h.resolved resolved in
    let found : first (faults_of_program (known_of_program held) held order) ≡ Some h.fault = subst (λ (o : List ℕ). IsTypeFault (known_of_program held) held o h.fault) same h.first in
    none-some h.fault (sym (ap first no_fault) ∙ found)
faultless tokens held order decided resolved no_fault (Large what number) h = h
faultless tokens held order decided resolved no_fault (Syntax other) h = h
faultless tokens held order decided resolved no_fault (Text place) h = h
faultless tokens held order decided resolved no_fault (Lex other) h = h

-- the text of a program that has a typed form has no fault
pub has_no_fault : (bytes : List ℕ) (held : List Statement) (order : List ℕ) (typed : Typed) → IsDecided bytes → (holds : HoldsStatements bytes held) → parsing.IsDecided holds.tokens
    → IsNameDecided held → IsResolved held order → IsTyped (known_of_program held) (lists_of held) held order typed → IsFaultless bytes
has_no_fault bytes held order typed decided holds one names resolved is_typed fault h =
    faultless holds.tokens held order names resolved is_typed.faultless fault (statement_fault bytes held holds one fault (token_fault bytes holds.tokens decided holds.reads fault h))
