-- What the lexer reads can stand in a program, so the statements that are read from it can be printed.
use Rattle.std.proofs.Common.{ℕ, Bool, true, false, if◌then◌else◌, List, [], ◌∷◌, ◌++◌, map}
use Rattle.std.specs.List.{All, AllZip}
use Rattle.std.proofs.lemmas.List.Elements.{All-nil, All-cons, All-head, All-tail}
use Rattle.aql_lexer.specs.Kinds.{Kind, token_of, kinds_of}
use Rattle.aql_lexer.specs.declared.token.Tok.{Tok}
use Rattle.aql_lexer.specs.Reading.{Part, white, comment, token, Reads, tokens_among, IsReading}
use Rattle.aql_syntax.specs.declared.tree.Statement.{Statement as Written}
use Rattle.aql_syntax.specs.Views.{statement_of}
use Rattle.aql_syntax.specs.Programs.{is_end, begun_with, runs_of, HasTokens, AreTokensOf}
use Rattle.aql_syntax.specs.Printing.{CanStand, CanBePrinted}
use Rattle.aql_parser.specs.Faults.{kinds_in}
use Rattle.aql_parser.proofs.ProgramRules.{kinds_seen}

among_stand : (before : List ℕ) (parts : List Part) (text rest : List ℕ) → Reads before parts text rest → All CanStand (kinds_in (tokens_among before parts))
among_stand before [] text rest h = All-nil CanStand
among_stand before (white bytes ∷ parts) text rest h = among_stand (before ++ bytes) parts h.0 rest h.3
among_stand before (comment bytes ∷ parts) text rest h = among_stand (before ++ bytes) parts h.0 rest h.3
among_stand before (token kind bytes ∷ parts) text rest h =
    All-cons CanStand kind (kinds_in (tokens_among (before ++ bytes) parts)) (bytes, h.0, h.2) (among_stand (before ++ bytes) parts h.0 rest h.3)

lexed : (text : List ℕ) (toks : List Tok) → IsReading text (map token_of toks) → All CanStand (kinds_of toks)
lexed text toks h =
    rw (← kinds_seen toks) (rw h.tokens_are (among_stand [] h.parts text [] h.reads))

abbrev IsPrintable : Written → Type 0
IsPrintable tree = CanBePrinted (statement_of tree)

-- of all tokens those of each run
joined_stand : (kind : Kind) (runs : List (List Kind)) → CanStand kind → All (All CanStand) runs → All (All CanStand) (begun_with kind runs)
joined_stand kind [] one h = All-cons (All CanStand) (kind ∷ []) [] (All-cons CanStand kind [] one (All-nil CanStand)) (All-nil (All CanStand))
joined_stand kind (run ∷ runs) one h =
    All-cons (All CanStand) (kind ∷ run) runs (All-cons CanStand kind run one (All-head (All CanStand) run runs h)) (All-tail (All CanStand) run runs h)

first_stands : (kind : Kind) (runs : List (List Kind)) (b : Bool) → CanStand kind → All (All CanStand) runs → All (All CanStand) (if b then (kind ∷ []) ∷ runs else begun_with kind runs)
first_stands kind runs true one h = All-cons (All CanStand) (kind ∷ []) runs (All-cons CanStand kind [] one (All-nil CanStand)) h
first_stands kind runs false one h = joined_stand kind runs one h

runs_stand : (ks : List Kind) → All CanStand ks → All (All CanStand) (runs_of ks)
runs_stand [] h = All-nil (All CanStand)
runs_stand (kind ∷ ks) h =
    first_stands kind (runs_of ks) (is_end kind) (All-head CanStand kind ks h) (runs_stand ks (All-tail CanStand kind ks h))

each_printable : (trees : List Written) (runs : List (List Kind)) → AllZip HasTokens (map statement_of trees) runs → All (All CanStand) runs → All IsPrintable trees
each_printable [] runs h stand = All-nil IsPrintable
each_printable (t ∷ ts) [] h stand = absurd h
each_printable (t ∷ ts) (run ∷ runs) h stand =
    All-cons IsPrintable t ts (record { kinds = run; tokens = h.0; standing = All-head (All CanStand) run runs stand })
    (each_printable ts runs h.1 (All-tail (All CanStand) run runs stand))

-- statements that are read from a text can be printed
pub printable : (text : List ℕ) (toks : List Tok) (trees : List Written) → IsReading text (map token_of toks) → AreTokensOf (kinds_of toks) (map statement_of trees) → All IsPrintable trees
printable text toks trees reading h = each_printable trees (runs_of (kinds_of toks)) h.each (runs_stand (kinds_of toks) (lexed text toks reading))
