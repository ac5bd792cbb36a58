-- Programs: what their statements are read as, and that they have one list of statements or one fault.
use Rattle.std.proofs.Common.{◌≡◌, ◌∙◌, ◌⊎◌, inl, inr, ⊎_elim, ℕ, zero, suc, ◌+◌, ◌-◌, ◌<◌, ◌≤◌, Bool, true, false, Decides, if◌then◌else◌, List, [], ◌∷◌, ◌++◌, length, map, take, drop, get_or, Option, Some, None, Ok, Err, Result, refl, ap, sym, subst, arith, append_assoc}
use Rattle.std.specs.Bool.{⊤}
use Rattle.std.specs.List.{All, AllZip, sum_by}
use Rattle.std.proofs.lemmas.Bool.{false≢true}
use Rattle.std.proofs.lemmas.List.{length-drop, length-map, length-take, length_push, take-map, drop-map, drop-drop, nil_from_length, append-nil}
use Rattle.std.proofs.lemmas.List.Elements.{All-nil, All-cons, All-head, All-tail}
use Rattle.std.proofs.lemmas.List.Sums.{count_by-le-length, sum_by-append, sum_by-cons}
use Rattle.span_token.specs.declared.refusal.Failure.{Failure}
use Rattle.span_token.specs.declared.refusal.Failure.TheVariants.{OutOfMemory, Fault}
use Rattle.aql_lexer.specs.Kinds.{Kind, Token, kind_of, token_of, kinds_of}
use Rattle.aql_lexer.specs.declared.token.Tok.{Tok}
use Rattle.aql_syntax.specs.declared.tree.Statement.{Statement as Written}
use Rattle.aql_syntax.specs.Places.{placed_statement}
use Rattle.aql_syntax.specs.Trees.{Statement, module_, require, export, dictionary, create, output}
use Rattle.aql_syntax.specs.Views.{statement_of}
use Rattle.aql_syntax.specs.Programs.{is_end, begun_with, runs_of, IsNoModule, HasTokens, AreTokensOf, placed_from, placed_in}
use Rattle.aql_parser.specs.Nesting.{is_sign, IsWithin, NestsWithin}
use Rattle.aql_parser.specs.Readers.{Left, Gives}
use Rattle.aql_parser.specs.Reading.Statements.{read_statement}
use Rattle.aql_parser.specs.Faults.{kinds_in, MayFollow, HasTree, HaveTrees, IsSyntaxFault, IsDecided, IsFaultOf}
use Rattle.aql_parser.specs.declared.parsing.SyntaxFault.{SyntaxFault}
use Rattle.aql_parser.specs.Runs.{IsFirstRun, IsTree, IsTreeOf}
use Rattle.aql_parser.specs.Keeping.{may_follow, IsKept, IsNamed}
use Rattle.aql_parser.proofs.Rules.{none_some, some_parts}
use Rattle.aql_parser.proofs.StatementRules.{placed_whole, reads_statement}

-- ---- one statement

-- tokens are within their own number
pub within_own : (ks : List Kind) → IsWithin (length ks) ks
within_own ks = λ i. omega (arith, count_by-le-length (is_sign "(") (take i ks), length-take i ks)

-- what the reader reads of all tokens of a statement
read_is : (d n : ℕ) (run : List Kind) (s : Statement) → IsWithin d run → HasTokens s run → (m : ℕ) × (read_statement d n run ≡ Some (placed_statement n s, m, []))
read_is d n run s within h =
    let found = (reads_statement d).complete n run s [] tt within h in ((placed_whole n s).1, found.reads)

-- a run has one statement but for places
pub one_statement : (n : ℕ) (run : List Kind) (s t : Statement) → HasTokens s run → HasTokens t run → placed_statement n s ≡ placed_statement n t
one_statement n run s t hs ht =
    let first = read_is (length run) n run s (within_own run) hs in
    let second = read_is (length run) n run t (within_own run) ht in
    (some_parts _ _ _ _ _ _ (sym first.1 ∙ second.1)).0

-- places don't make a `module`
no_module_placed : (n : ℕ) (s : Statement) → IsNoModule s → IsNoModule (placed_statement n s)
no_module_placed n (module_ name) h = absurd h
no_module_placed n require h = tt
no_module_placed n (export name) h = tt
no_module_placed n (dictionary name entries) h = tt
no_module_placed n (create name query) h = tt
no_module_placed n (output name alias) h = tt

placed_no_module : (n : ℕ) (s : Statement) → IsNoModule (placed_statement n s) → IsNoModule s
placed_no_module n (module_ name) h = absurd h
placed_no_module n require h = tt
placed_no_module n (export name) h = tt
placed_no_module n (dictionary name entries) h = tt
placed_no_module n (create name query) h = tt
placed_no_module n (output name alias) h = tt

-- the same statement but for places follows as many
may_follow_as : (before n : ℕ) (s t : Statement) → placed_statement n s ≡ placed_statement n t → MayFollow before s → MayFollow before t
may_follow_as zero n s t same h = tt
may_follow_as (suc before) n s t same h =
    placed_no_module n t (subst IsNoModule same (no_module_placed n s h))

does_follow : (before : ℕ) (s : Statement) → may_follow before s ≡ true → MayFollow before s
does_follow zero s h = tt
does_follow (suc before) (module_ name) h = absurd (false≢true h)
does_follow (suc before) require h = tt
does_follow (suc before) (export name) h = tt
does_follow (suc before) (dictionary name entries) h = tt
does_follow (suc before) (create name query) h = tt
does_follow (suc before) (output name alias) h = tt

does_not_follow : (before : ℕ) (s : Statement) → may_follow before s ≡ false → ¬ (MayFollow before s)
does_not_follow zero s h w = false≢true (sym h)
does_not_follow (suc before) (module_ name) h w = w
does_not_follow (suc before) require h w = false≢true (sym h)
does_not_follow (suc before) (export name) h w = false≢true (sym h)
does_not_follow (suc before) (dictionary name entries) h w = false≢true (sym h)
does_not_follow (suc before) (create name query) h w = false≢true (sym h)
does_not_follow (suc before) (output name alias) h w = false≢true (sym h)

-- what the reader refuses has no tree
none_read : (d n before : ℕ) (run : List Kind) → IsWithin d run → read_statement d n run ≡ None → ¬ (HasTree before run)
none_read d n before run within none tree =
    let read = read_is d n run tree.0 within tree.1 in
    none_some (placed_statement n tree.0, read.0, []) (sym none ∙ read.1)

-- what leaves tokens over has none
left_over : (d n before m : ℕ) (run rest : List Kind) (s : Statement) → IsWithin d run → read_statement d n run ≡ Some (s, m, rest) → ¬ (rest ≡ []) → ¬ (HasTree before run)
left_over d n before m run rest s within reads some tree =
    let read = read_is d n run tree.0 within tree.1 in
    some (some_parts _ _ _ _ _ _ (sym reads ∙ read.1)).2

-- what is read whole has its tokens, and its places
read_whole : (d n m : ℕ) (run : List Kind) (s : Statement) → IsWithin d run → read_statement d n run ≡ Some (s, m, []) → HasTokens s run × (placed_statement n s ≡ s)
read_whole d n m run s within reads =
    let tokens = (reads_statement d).sound n run s m [] reads in
    let read = read_is d n run s within tokens in
    (tokens, (some_parts _ _ _ _ _ _ (sym read.1 ∙ reads)).0)

-- what may not follow has no tree there
late : (before : ℕ) (run : List Kind) (s : Statement) → HasTokens s run → may_follow before s ≡ false → ¬ (HasTree before run)
late before run s tokens is tree =
    does_not_follow before s is (may_follow_as before 0 tree.0 s (one_statement 0 run tree.0 s tree.1 tokens) tree.2)

-- ---- the answers of the call that reads one statement

pub tree_refused : {F : Type 0} (d at before : ℕ) (run : List Kind) (e : Failure F) (from left : Left) → IsWithin d run → from ≡ record { at = at; kinds = run } → Gives {X = Written} statement_of (read_statement d from.at from.kinds) (Err e) left → IsTreeOf {F = F} at run before (Err e)
tree_refused d at before run OutOfMemory from left within is h = tt
tree_refused d at before run (Fault f) from left within is h = none_read d at before run within (rw is at h)

-- what leaves tokens over, or may not stand there, has no tree
not_whole : (d at before : ℕ) (run : List Kind) (s : Statement) (left : Left) → IsWithin d run → read_statement d at run ≡ Some (s, left.at, left.kinds) → (left.kinds ≡ [] → may_follow before s ≡ true → ⊥) → ¬ (HasTree before run)
not_whole d at before run s left within reads not_both = by_rest left.kinds refl
  where
    by_follow : left.kinds ≡ [] → (b : Bool) → may_follow before s ≡ b → ¬ (HasTree before run)
    by_follow none true may = absurd (not_both none may)
    by_follow none false may = late before run s (read_whole d at left.at run s within (rw none at reads)).0 may

    by_rest : (rest : List Kind) → left.kinds ≡ rest → ¬ (HasTree before run)
    by_rest [] is = by_follow is (may_follow before s) refl
    by_rest (kind ∷ rest) is = left_over d at before left.at run left.kinds s within reads (λ e. cc)

-- a statement is kept where all tokens are read and it may stand there
pub tree_kept : {F : Type 0} (d at before : ℕ) (run : List Kind) (s : Written) (left : Left) (is_whole : Bool) (answer : Result Written (Failure F)) → IsWithin d run → read_statement d at run ≡ Some (statement_of s, left.at, left.kinds) → Decides is_whole ((left.kinds ≡ []) × (may_follow before (statement_of s) ≡ true)) → IsKept s is_whole answer → IsTreeOf at run before answer
tree_kept d at before run s left true answer within reads whole h =
    let both = whole.0 refl in
    let none : left.kinds ≡ [] = both.0 in
    let read = read_whole d at left.at run (statement_of s) within (rw none at reads) in
    rw h (record { tokens = read.0; follows = does_follow before (statement_of s) both.1; placed = read.1 })
tree_kept d at before run s left false (Err (Fault f)) within reads whole h =
    not_whole d at before run (statement_of s) left within reads (λ none may. false≢true (whole.1 (none, may)))
tree_kept d at before run s left false (Err OutOfMemory) within reads whole h = absurd h
tree_kept d at before run s left false (Ok t) within reads whole h = absurd h

-- ---- runs

-- a run with tokens
abbrev HasSome : List Kind → Type 0
HasSome run = 0 < length run

some_joined : (kind : Kind) (runs : List (List Kind)) → All HasSome runs → All HasSome (begun_with kind runs)
some_joined kind [] h = All-cons HasSome (kind ∷ []) [] (omega arith) (All-nil HasSome)
some_joined kind (run ∷ runs) h = All-cons HasSome (kind ∷ run) runs (omega arith) (All-tail HasSome run runs h)

some_first : (kind : Kind) (runs : List (List Kind)) (b : Bool) → All HasSome runs → All HasSome (if b then (kind ∷ []) ∷ runs else begun_with kind runs)
some_first kind runs true h = All-cons HasSome (kind ∷ []) runs (omega arith) h
some_first kind runs false h = some_joined kind runs h

runs_nonempty : (ks : List Kind) → All HasSome (runs_of ks)
runs_nonempty [] = All-nil HasSome
runs_nonempty (kind ∷ ks) = some_first kind (runs_of ks) (is_end kind) (runs_nonempty ks)

-- the runs have all tokens
length_joined : (kind : Kind) (runs : List (List Kind)) → sum_by length (begun_with kind runs) ≡ suc (sum_by length runs)
length_joined kind [] = refl
length_joined kind (run ∷ runs) = omega (arith, sum_by-cons length (kind ∷ run) runs, sum_by-cons length run runs)

length_first : (kind : Kind) (runs : List (List Kind)) (b : Bool) → sum_by length (if b then (kind ∷ []) ∷ runs else begun_with kind runs) ≡ suc (sum_by length runs)
length_first kind runs true = omega (arith, sum_by-cons length (kind ∷ []) runs)
length_first kind runs false = length_joined kind runs

pub runs_length : (ks : List Kind) → sum_by length (runs_of ks) ≡ length ks
runs_length [] = refl
runs_length (kind ∷ ks) = length_first kind (runs_of ks) (is_end kind) ∙ ap suc (runs_length ks)

-- a run among others begins and ends within the tokens
run_inside : (ks : List Kind) (before : List (List Kind)) (run : List Kind) (later : List (List Kind)) → runs_of ks ≡ before ++ run ∷ later → sum_by length before < length ks
run_inside ks before run later split =
    let all : sum_by length (before ++ run ∷ later) ≡ length ks = sym (ap (sum_by length) split) ∙ runs_length ks in
    let some : 0 < length run = nonempty before (subst (All HasSome) split (runs_nonempty ks)) in
    omega (arith, all, some, sum_by-append length before (run ∷ later), sum_by-cons length run later)
  where
    nonempty : (before : List (List Kind)) → All HasSome (before ++ run ∷ later) → 0 < length run
    nonempty [] h = All-head HasSome run later h
    nonempty (x ∷ xs) h = nonempty xs (All-tail HasSome x (xs ++ run ∷ later) h)

-- ---- all statements

pub kinds_seen : (toks : List Tok) → kinds_in (map token_of toks) ≡ kinds_of toks
kinds_seen [] = refl
kinds_seen (tok ∷ toks) = ap (λ (ks : List Kind). kind_of tok.kind ∷ ks) (kinds_seen toks)

-- trees in turn, with so many before the first, whose first token has the number `at`
abbrev pub AreTrees : ℕ → ℕ → List Statement → List (List Kind) → Type 0
AreTrees before at [] [] = ⊤
AreTrees before at [] (run ∷ runs) = ⊥
AreTrees before at (s ∷ ss) [] = ⊥
AreTrees before at (s ∷ ss) (run ∷ runs) =
    HasTokens s run × MayFollow before s × (placed_statement at s ≡ s) × AreTrees (before + 1) (at + length run) ss runs

trees_push : (before at b a : ℕ) (ss : List Statement) (runs : List (List Kind)) (s : Statement) (run : List Kind) → b ≡ before + length runs → a ≡ at + sum_by length runs → AreTrees before at ss runs → HasTokens s run → MayFollow b s → placed_statement a s ≡ s → AreTrees before at (ss ++ s ∷ []) (runs ++ run ∷ [])
trees_push before at b a [] [] s run is_b is_a h tokens follows placed =
    let same_b : b ≡ before = omega (arith, is_b) in
    let same_a : a ≡ at = omega (arith, is_a) in
    (tokens, subst (λ (n : ℕ). MayFollow n s) same_b follows, subst (λ (n : ℕ). placed_statement n s ≡ s) same_a placed, tt)
trees_push before at b a [] (r ∷ rs) s run is_b is_a h tokens follows placed = absurd h
trees_push before at b a (x ∷ xs) [] s run is_b is_a h tokens follows placed = absurd h
trees_push before at b a (x ∷ xs) (r ∷ rs) s run is_b is_a h tokens follows placed =
    (h.0, h.1, h.2, trees_push (before + 1) (at + length r) b a xs rs s run (omega (arith, is_b)) (omega (arith, is_a, sum_by-cons length r rs)) h.3 tokens follows placed)

trees_count : (before at : ℕ) (ss : List Statement) (runs : List (List Kind)) → AreTrees before at ss runs → length ss ≡ length runs
trees_count before at [] [] h = refl
trees_count before at [] (run ∷ runs) h = absurd h
trees_count before at (s ∷ ss) [] h = absurd h
trees_count before at (s ∷ ss) (run ∷ runs) h = ap suc (trees_count (before + 1) (at + length run) ss runs h.3)

trees_tokens : (before at : ℕ) (ss : List Statement) (runs : List (List Kind)) → AreTrees before at ss runs → AllZip HasTokens ss runs
trees_tokens before at [] [] h = tt
trees_tokens before at [] (run ∷ runs) h = absurd h
trees_tokens before at (s ∷ ss) [] h = absurd h
trees_tokens before at (s ∷ ss) (run ∷ runs) h = (h.0, trees_tokens (before + 1) (at + length run) ss runs h.3)

follow_some : (before : ℕ) (s : Statement) → 0 < before → MayFollow before s → IsNoModule s
follow_some zero s some h = absurd (omega arith)
follow_some (suc before) s some h = h

trees_no_module : (before at : ℕ) (ss : List Statement) (runs : List (List Kind)) → 0 < before → AreTrees before at ss runs → All IsNoModule ss
trees_no_module before at [] runs some h = All-nil IsNoModule
trees_no_module before at (s ∷ ss) [] some h = absurd h
trees_no_module before at (s ∷ ss) (run ∷ runs) some h =
    All-cons IsNoModule s ss (follow_some before s some h.1) (trees_no_module (before + 1) (at + length run) ss runs (omega arith) h.3)

trees_module_first : (at : ℕ) (ss : List Statement) (runs : List (List Kind)) → AreTrees 0 at ss runs → All IsNoModule (drop 1 ss)
trees_module_first at [] runs h = All-nil IsNoModule
trees_module_first at (s ∷ ss) [] h = absurd h
trees_module_first at (s ∷ ss) (run ∷ runs) h = trees_no_module 1 (at + length run) ss runs (omega arith) h.3

trees_placed : (before at : ℕ) (ss : List Statement) (runs : List (List Kind)) → AreTrees before at ss runs → placed_from at runs ss ≡ ss
trees_placed before at [] [] h = refl
trees_placed before at [] (run ∷ runs) h = absurd h
trees_placed before at (s ∷ ss) [] h = absurd h
trees_placed before at (s ∷ ss) (run ∷ runs) h = rw (h.2, trees_placed (before + 1) (at + length run) ss runs h.3) refl

trees_have : (before at : ℕ) (ss : List Statement) (runs : List (List Kind)) → AreTrees before at ss runs → HaveTrees before runs
trees_have before at [] [] h = tt
trees_have before at [] (run ∷ runs) h = absurd h
trees_have before at (s ∷ ss) [] h = absurd h
trees_have before at (s ∷ ss) (run ∷ runs) h = ((s, h.0, h.1), trees_have (before + 1) (at + length run) ss runs h.3)

-- the tokens before `rest` are those of these statements
pub record HasParsed (tokens rest : List Token) (ss : List Statement) : Type 0 where
  pub before : List (List Kind)
  pub split : runs_of (kinds_in tokens) ≡ before ++ runs_of (kinds_in rest)
  pub trees : AreTrees 0 0 ss before
  pub left : drop (sum_by length before) tokens ≡ rest
  pub read : sum_by length before + length rest ≡ length tokens
  pub few : length before + length rest ≤ length tokens

pub begins_parse : (tokens : List Token) → HasParsed tokens tokens []
begins_parse tokens =
    record { before = []; split = refl; trees = tt; left = refl; read = omega arith; few = omega arith }

-- one more statement, read at the number of its first token
pub parses_run : (tokens rest : List Token) (ss : List Statement) (s : Statement) (at len : ℕ) → HasParsed tokens rest ss → at ≡ length tokens - length rest → IsFirstRun (kinds_in rest) len → HasTokens s (take len (kinds_in rest)) → MayFollow (length ss) s → placed_statement at s ≡ s → HasParsed tokens (drop len rest) (ss ++ s ∷ [])
parses_run tokens rest ss s at len h is_at run tokens_are follows placed =
    let first = take len (kinds_in rest) in
    let all = h.before ++ first ∷ [] in
    let as_long : length (kinds_in rest) ≡ length rest = length-map rest (λ (t : Token). t.kind) in
    let len_first : length first ≡ len = omega (arith, length-take len (kinds_in rest), run.inside) in
    let sum_all : sum_by length all ≡ sum_by length h.before + len = omega (arith, sum_by-append length h.before (first ∷ []), sum_by-cons length first [], len_first) in
    let dropped : kinds_in (drop len rest) ≡ drop len (kinds_in rest) = sym (drop-map (λ (t : Token). t.kind) len rest) in
    record {
      before = all;
      split = rw dropped (h.split ∙ ap (λ (runs : List (List Kind)). h.before ++ runs) run.first ∙ sym (append_assoc h.before (first ∷ []) (runs_of (drop len (kinds_in rest)))));
      trees = trees_push 0 0 (length ss) at ss h.before s first (omega (arith, trees_count 0 0 ss h.before h.trees)) (omega (arith, is_at, h.read)) h.trees tokens_are follows placed;
      left = ap (λ (n : ℕ). drop n tokens) sum_all ∙ sym (drop-drop len (sum_by length h.before) tokens) ∙ ap (drop len) h.left;
      read = omega (arith, sum_all, h.read, length-drop len rest, run.inside, as_long);
      few = omega (arith, h.few, length_push h.before first, run.some, run.inside, as_long, length-drop len rest);
    }

-- all is read
pub record AreAllTrees (kinds : List Kind) (ss : List Statement) : Type 0 where
  pub tokens : AreTokensOf kinds ss
  pub placed : placed_in kinds ss ≡ ss

pub parsed : (tokens rest : List Token) (ss : List Statement) → HasParsed tokens rest ss → length rest ≡ 0 → AreAllTrees (kinds_in tokens) ss
parsed tokens rest ss h none =
    let empty : rest ≡ [] = nil_from_length rest none in
    let split : runs_of (kinds_in tokens) ≡ h.before = h.split ∙ rw empty (append-nil h.before) in
    record {
      tokens = record {
        each = rw split (trees_tokens 0 0 ss h.before h.trees);
        module_first = trees_module_first 0 ss h.before h.trees;
      };
      placed = rw split (trees_placed 0 0 ss h.before h.trees);
    }

-- the next statement has no tree
pub stops_at : (tokens rest others : List Token) (first : Token) (ss : List Statement) (statement len : ℕ) → HasParsed tokens rest ss → rest ≡ first ∷ others → IsFirstRun (kinds_in rest) len → ¬ (HasTree (length ss) (take len (kinds_in rest))) → statement ≡ length ss + 1 → IsSyntaxFault tokens statement first.line
stops_at tokens rest others first ss statement len h is run none number =
    let count = trees_count 0 0 ss h.before h.trees in
    record {
      before = h.before;
      run = take len (kinds_in rest);
      later = runs_of (drop len (kinds_in rest));
      runs = h.split ∙ ap (λ (runs : List (List Kind)). h.before ++ runs) run.first;
      first_without = trees_have 0 0 ss h.before h.trees;
      no_tree = subst (λ (n : ℕ). ¬ (HasTree n (take len (kinds_in rest)))) count none;
      number = number ∙ ap (λ (n : ℕ). n + 1) count;
      first = first;
      others = others;
      begins = h.left ∙ is;
      on_line = refl;
    }

-- ---- what tokens decide

-- the statements of all tokens are trees of all runs
have_from : (before : ℕ) (ss : List Statement) (runs : List (List Kind)) → 0 < before → AllZip HasTokens ss runs → All IsNoModule ss → HaveTrees before runs
have_from before [] [] some h none = tt
have_from before [] (run ∷ runs) some h none = absurd h
have_from before (s ∷ ss) [] some h none = absurd h
have_from before (s ∷ ss) (run ∷ runs) some h none =
    ((s, h.0, follows before some), have_from (before + 1) ss runs (omega arith) h.1 (All-tail IsNoModule s ss none))
  where
    follows : (n : ℕ) → 0 < n → MayFollow n s
    follows zero some = tt
    follows (suc n) some = All-head IsNoModule s ss none

have_trees : (kinds : List Kind) (ss : List Statement) → AreTokensOf kinds ss → HaveTrees 0 (runs_of kinds)
have_trees kinds ss h = all ss (runs_of kinds) h.each h.module_first
  where
    all : (ss : List Statement) (runs : List (List Kind)) → AllZip HasTokens ss runs → All IsNoModule (drop 1 ss) → HaveTrees 0 runs
    all [] [] h none = tt
    all [] (run ∷ runs) h none = absurd h
    all (s ∷ ss) [] h none = absurd h
    all (s ∷ ss) (run ∷ runs) h none = ((s, h.0, tt), have_from 1 ss runs (omega arith) h.1 none)

-- and the other way round
trees_from : (before : ℕ) (runs : List (List Kind)) → HaveTrees before runs → (ss : List Statement) × AllZip HasTokens ss runs × (0 < before → All IsNoModule ss)
trees_from before [] h = ([], tt, λ some. All-nil IsNoModule)
trees_from before (run ∷ runs) h =
    let more = trees_from (before + 1) runs h.1 in
    (h.0.0 ∷ more.0, (h.0.1, more.1), λ some. All-cons IsNoModule h.0.0 more.0 (follow_some before h.0.0 some h.0.2) (more.2 (omega arith)))

program_from : (kinds : List Kind) → HaveTrees 0 (runs_of kinds) → (ss : List Statement) × AreTokensOf kinds ss
program_from kinds h = all (runs_of kinds) refl h
  where
    all : (runs : List (List Kind)) → runs_of kinds ≡ runs → HaveTrees 0 runs → (ss : List Statement) × AreTokensOf kinds ss
    all [] is h = ([], record { each = rw is tt; module_first = All-nil IsNoModule })
    all (run ∷ runs) is h =
        let more = trees_from 1 runs h.1 in
        (h.0.0 ∷ more.0, record { each = rw is (h.0.1, more.1); module_first = more.2 (omega arith) })

-- the same with as many before
tree_at : (m n : ℕ) (run : List Kind) → m ≡ n → HasTree m run → HasTree n run
tree_at m n run same h = subst (λ (k : ℕ). HasTree k run) same h

-- each run among others
have_at : (n : ℕ) (before : List (List Kind)) (run : List Kind) (later : List (List Kind)) → HaveTrees n (before ++ run ∷ later) → HasTree (n + length before) run
have_at n [] run later h = tree_at n (n + 0) run (omega arith) h.0
have_at n (x ∷ xs) run later h =
    let same : n + 1 + length xs ≡ n + suc (length xs) = omega arith in
    subst (λ (m : ℕ). HasTree m run) same (have_at (n + 1) xs run later h.1)

have_first : (n : ℕ) (x : List Kind) (xs : List (List Kind)) → HaveTrees n (x ∷ xs) → HasTree n x
have_first n x xs h = h.0

-- the first run without a tree is one
same_first : (n : ℕ) (b c : List (List Kind)) (r s : List Kind) (l m : List (List Kind)) → b ++ r ∷ l ≡ c ++ s ∷ m → HaveTrees n b → HaveTrees n c → ¬ (HasTree (n + length b) r) → ¬ (HasTree (n + length c) s) → b ≡ c
same_first n [] [] r s l m same hb hc nr ns = refl
same_first n [] (y ∷ ys) r s l m same hb hc nr ns =
    let head : r ≡ y = cc in absurd (nr (tree_at n (n + 0) r (omega arith) (subst (λ (x : List Kind). HasTree n x) (sym head) hc.0)))
same_first n (x ∷ xs) [] r s l m same hb hc nr ns =
    let head : x ≡ s = cc in absurd (ns (tree_at n (n + 0) s (omega arith) (subst (λ (z : List Kind). HasTree n z) head hb.0)))
same_first n (x ∷ xs) (y ∷ ys) r s l m same hb hc nr ns =
    let head : x ≡ y = cc in
    let tail : xs ++ r ∷ l ≡ ys ++ s ∷ m = cc in
    let one : n + suc (length xs) ≡ n + 1 + length xs = omega arith in
    let two : n + suc (length ys) ≡ n + 1 + length ys = omega arith in
    let rest = same_first (n + 1) xs ys r s l m tail hb.1 hc.1 (subst (λ (k : ℕ). ¬ (HasTree k r)) one nr) (subst (λ (k : ℕ). ¬ (HasTree k s)) two ns) in
    cc

-- a run has a tree or none
tree_or_none : (before : ℕ) (run : List Kind) → HasTree before run ⊎ (¬ (HasTree before run))
tree_or_none before run = by_reading (read_statement (length run) 0 run) refl
  where
    by_module : (s : Statement) → HasTokens s run → (b : Bool) → may_follow before s ≡ b → HasTree before run ⊎ (¬ (HasTree before run))
    by_module s tokens true is = inl (s, tokens, does_follow before s is)
    by_module s tokens false is = inr (late before run s tokens is)

    by_rest : (s : Statement) (m : ℕ) (rest : List Kind) → read_statement (length run) 0 run ≡ Some (s, m, rest) → HasTree before run ⊎ (¬ (HasTree before run))
    by_rest s m [] reads = by_module s (read_whole (length run) 0 m run s (within_own run) reads).0 (may_follow before s) refl
    by_rest s m (kind ∷ rest) reads = inr (left_over (length run) 0 before m run (kind ∷ rest) s (within_own run) reads (λ e. cc))

    by_reading : (o : Option (Statement × ℕ × List Kind)) → read_statement (length run) 0 run ≡ o → HasTree before run ⊎ (¬ (HasTree before run))
    by_reading None reads = inr (none_read (length run) 0 before run (within_own run) reads)
    by_reading (Some r) reads = by_rest r.0 r.1 r.2 reads

-- runs have trees, or there is a first without one
pub record FirstWithout (n : ℕ) (runs : List (List Kind)) : Type 0 where
  pub before : List (List Kind)
  pub run : List Kind
  pub later : List (List Kind)
  pub split : runs ≡ before ++ run ∷ later
  pub have : HaveTrees n before
  pub none : ¬ (HasTree (n + length before) run)

all_or_first : (n : ℕ) (runs : List (List Kind)) → HaveTrees n runs ⊎ FirstWithout n runs
all_or_first n [] = inl tt
all_or_first n (run ∷ runs) = ⊎_elim
    (λ tree. ⊎_elim
    (λ (more : HaveTrees (n + 1) runs). inl (tree, more))
    (λ (w : FirstWithout (n + 1) runs).
    let same : n + 1 + length w.before ≡ n + suc (length w.before) = omega arith in
    inr (record {
      before = run ∷ w.before;
      run = w.run;
      later = w.later;
      split = ap (λ (rs : List (List Kind)). run ∷ rs) w.split;
      have = (tree, w.have);
      none = subst (λ (k : ℕ). ¬ (HasTree k w.run)) same w.none;
    }))
    (all_or_first (n + 1) runs))
    (λ none. inr (record { before = []; run = run; later = runs; split = refl; have = tt; none = λ tree. none (tree_at (n + 0) n run (omega arith) tree) }))
    (tree_or_none n run)

-- a list with more than n elements goes on after n
goes_on_after : {X : Type 0} (xs : List X) (n : ℕ) → n < length xs → (x : X) × (others : List X) × (drop n xs ≡ x ∷ others)
goes_on_after [] n few = absurd (omega arith)
goes_on_after (x ∷ xs) zero few = (x, xs, refl)
goes_on_after (x ∷ xs) (suc n) few = goes_on_after xs n (omega arith)

decided_first : (tokens : List Token) → HaveTrees 0 (runs_of (kinds_in tokens)) ⊎ FirstWithout 0 (runs_of (kinds_in tokens)) → ((ss : List Statement) × AreTokensOf (kinds_in tokens) ss) ⊎ ((statement line : ℕ) × IsSyntaxFault tokens statement line)
decided_first tokens (inl all) = inl (program_from (kinds_in tokens) all)
decided_first tokens (inr w) =
    let inside = run_inside (kinds_in tokens) w.before w.run w.later w.split in
    let as_long = length-map tokens (λ (t : Token). t.kind) in
    let next = goes_on_after tokens (sum_by length w.before) (omega (arith, inside, as_long)) in
    inr (
      length w.before + 1,
      next.0.line,
      record {
        before = w.before;
        run = w.run;
        later = w.later;
        runs = w.split;
        first_without = w.have;
        no_tree = λ tree. w.none (tree_at (length w.before) (0 + length w.before) w.run (omega arith) tree);
        number = refl;
        first = next.0;
        others = next.1;
        begins = next.2;
        on_line = refl;
      },
    )

lists_same : (n : ℕ) (runs : List (List Kind)) (xs ys : List Statement) → AllZip HasTokens xs runs → AllZip HasTokens ys runs → placed_from n runs xs ≡ placed_from n runs ys
lists_same n [] [] [] hx hy = refl
lists_same n [] (x ∷ xs) ys hx hy = absurd hx
lists_same n [] [] (y ∷ ys) hx hy = absurd hy
lists_same n (run ∷ runs) [] ys hx hy = absurd hx
lists_same n (run ∷ runs) (x ∷ xs) [] hx hy = absurd hy
lists_same n (run ∷ runs) (x ∷ xs) (y ∷ ys) hx hy =
    rw (one_statement n run x y hx.0 hy.0, lists_same (n + length run) runs xs ys hx.1 hy.1) refl

pub decided : (tokens : List Token) → IsDecided tokens
decided tokens = record {
  one_of_two = decided_first tokens (all_or_first 0 (runs_of (kinds_in tokens)));
  one_list = λ xs ys hx hy. lists_same 0 (runs_of (kinds_in tokens)) xs ys hx.each hy.each;
  one_fault = λ s t l m f g.
      let before = same_first 0 f.before g.before f.run g.run f.later g.later (sym f.runs ∙ g.runs) f.first_without g.first_without (λ tree. f.no_tree (tree_at (0 + length f.before) (length f.before) f.run (omega arith) tree)) (λ tree. g.no_tree (tree_at (0 + length g.before) (length g.before) g.run (omega arith) tree)) in
      let begins : f.first ∷ f.others ≡ g.first ∷ g.others = sym f.begins ∙ ap (λ (b : List (List Kind)). drop (sum_by length b) tokens) before ∙ g.begins in
      let first : f.first ≡ g.first = cc in
      (f.number ∙ ap (λ (b : List (List Kind)). length b + 1) before ∙ sym g.number, f.on_line ∙ ap (λ (t : Token). t.line) first ∙ sym g.on_line);
  not_both = λ ss s l h f.
      f.no_tree (tree_at (0 + length f.before) (length f.before) f.run (omega arith) (have_at 0 f.before f.run f.later (subst (HaveTrees 0) f.runs (have_trees (kinds_in tokens) ss h))));
}

-- any statements with these tokens are the answer but for places
pub only_these : (toks : List Tok) (ss others : List Statement) → AreAllTrees (kinds_of toks) ss → AreTokensOf (kinds_of toks) others → ss ≡ placed_in (kinds_of toks) others
only_these toks ss others h other =
    sym h.placed ∙ lists_same 0 (runs_of (kinds_of toks)) ss others h.tokens.each other.each

-- where there is a fault there are none
pub no_others : (toks : List Tok) (others : List Statement) (statement line : ℕ) → IsSyntaxFault (map token_of toks) statement line → ¬ (AreTokensOf (kinds_of toks) others)
no_others toks others statement line fault other =
    (decided (map token_of toks)).not_both others statement line (rw (kinds_seen toks) other) fault

-- the refusal of a statement is the program's
pub refused_there : {F : Type 0} (tokens rest others : List Token) (first : Token) (ss : List Statement) (statement at len : ℕ) (refused : Failure F) (failure : Failure SyntaxFault) → HasParsed tokens rest ss → rest ≡ first ∷ others → IsFirstRun (kinds_in rest) len → IsTreeOf {F = F} at (take len (kinds_in rest)) (length ss) (Err refused) → statement ≡ length ss + 1 → IsNamed refused statement first.line failure → IsFaultOf tokens failure
refused_there tokens rest others first ss statement at len OutOfMemory failure h is run tree number named = rw named tt
refused_there tokens rest others first ss statement at len (Fault f) failure h is run none number named =
    rw named (stops_at tokens rest others first ss statement len h is run none number)

-- where there are statements, a refusal is want of memory
pub only_memory : (toks : List Tok) (others : List Statement) (failure : Failure SyntaxFault) → IsFaultOf (map token_of toks) failure → AreTokensOf (kinds_of toks) others → failure ≡ OutOfMemory
only_memory toks others OutOfMemory fault other = refl
only_memory toks others (Fault f) fault other = absurd (no_others toks others f.statement f.line fault other)

-- ---- the turns of the loop

seen_kinds : (n : ℕ) (rest : List Tok) → kinds_of (take n rest) ≡ take n (kinds_in (map token_of rest))
seen_kinds n rest = sym (take-map (λ tok. kind_of tok.kind) n rest) ∙ ap (take n) (sym (kinds_seen rest))

seen_run : (rest : List Tok) (len : ℕ) → IsFirstRun (kinds_of rest) len → IsFirstRun (kinds_in (map token_of rest)) len
seen_run rest len run = rw (kinds_seen rest) run

-- the next statement nests within the limit
pub run_nested : (limit : ℕ) (toks rest : List Tok) (ss : List Statement) (len : ℕ) → NestsWithin limit (kinds_of toks) → HasParsed (map token_of toks) (map token_of rest) ss → IsFirstRun (kinds_of rest) len → IsWithin limit (kinds_of (take len rest))
run_nested limit toks rest ss len nests h run =
    let first = take len (kinds_of rest) in
    let split : runs_of (kinds_of toks) ≡ h.before ++ first ∷ runs_of (drop len (kinds_of rest)) =
    ap runs_of (sym (kinds_seen toks)) ∙ h.split ∙ ap (λ (ks : List Kind). h.before ++ runs_of ks) (kinds_seen rest) ∙ ap (λ (runs : List (List Kind)). h.before ++ runs) run.first in
    let one = among (IsWithin nests.0) h.before first (runs_of (drop len (kinds_of rest))) (subst (All (IsWithin nests.0)) split nests.1.within) in
    let same : kinds_of (take len rest) ≡ first = sym (take-map (λ tok. kind_of tok.kind) len rest) in
    λ i. rw same (omega (arith, one i, nests.2))
  where
    among : (P : List Kind → Type 0) (before : List (List Kind)) (run : List Kind) (later : List (List Kind)) → All P (before ++ run ∷ later) → P run
    among P [] run later h = All-head P run later h
    among P (x ∷ xs) run later h = among P xs run later (All-tail P x (xs ++ run ∷ later) h)

-- there are as many statements as runs, and no more than tokens
pub few_parsed : (tokens rest : List Token) (ss : List Statement) → HasParsed tokens rest ss → length ss + length rest ≤ length tokens
few_parsed tokens rest ss h = omega (arith, h.few, trees_count 0 0 ss h.before h.trees)

first_of : (rest : List Tok) (first : Tok) → 1 ≤ length rest → first ≡ get_or rest 0 first → rest ≡ first ∷ drop 1 rest
first_of [] first some is = absurd (omega arith)
first_of (tok ∷ toks) first some is = ap (λ (t : Tok). t ∷ toks) (sym is)

-- the fault of the next statement
pub fault_is : {F : Type 0} (toks rest : List Tok) (first : Tok) (ss : List Statement) (statement at count len : ℕ) (refused : Failure F) (failure : Failure SyntaxFault) → HasParsed (map token_of toks) (map token_of rest) ss → 1 ≤ length rest → first ≡ get_or rest 0 first → IsFirstRun (kinds_of rest) len → IsTreeOf {F = F} at (kinds_of (take len rest)) count (Err refused) → count ≡ length ss → statement ≡ length ss + 1 → IsNamed refused statement first.line failure → IsFaultOf (map token_of toks) failure
fault_is {F} toks rest first ss statement at count len refused failure h some is run tree as_many number named =
    let here = ap (map token_of) (first_of rest first some is) in
    let tree_there : IsTreeOf {F = F} at (take len (kinds_in (map token_of rest))) (length ss) (Err refused) =
    subst (λ (n : ℕ). IsTreeOf {F = F} at (take len (kinds_in (map token_of rest))) n (Err refused)) as_many
    (subst (λ (ks : List Kind). IsTreeOf {F = F} at ks count (Err refused)) (seen_kinds len rest) tree) in
    refused_there (map token_of toks) (map token_of rest) (map token_of (drop 1 rest)) (token_of first) ss statement at len refused failure h here (seen_run rest len run) tree_there number named

-- one statement more
pub next_parsed : (toks rest : List Tok) (ss : List Statement) (s : Written) (at count len : ℕ) → HasParsed (map token_of toks) (map token_of rest) ss → IsFirstRun (kinds_of rest) len → IsTree at (kinds_of (take len rest)) count s → count ≡ length ss → at ≡ length toks - length rest → HasParsed (map token_of toks) (map token_of (drop len rest)) (ss ++ statement_of s ∷ [])
next_parsed toks rest ss s at count len h run tree as_many is_at =
    let tokens : HasTokens (statement_of s) (take len (kinds_in (map token_of rest))) = subst (λ (ks : List Kind). HasTokens (statement_of s) ks) (seen_kinds len rest) tree.tokens in
    let follows : MayFollow (length ss) (statement_of s) = subst (λ (n : ℕ). MayFollow n (statement_of s)) as_many tree.follows in
    let at_is : at ≡ length (map token_of toks) - length (map token_of rest) = omega (arith, is_at, length-map toks token_of, length-map rest token_of) in
    rw (← drop-map token_of len rest)
    (parses_run (map token_of toks) (map token_of rest) ss (statement_of s) at len h at_is (seen_run rest len run) tokens follows tree.placed)

-- no token is left
pub all_parsed : (toks rest : List Tok) (ss : List Statement) → HasParsed (map token_of toks) (map token_of rest) ss → length rest < 1 → AreAllTrees (kinds_of toks) ss
all_parsed toks rest ss h none =
    subst (λ (ks : List Kind). AreAllTrees ks ss) (kinds_seen toks)
    (parsed (map token_of toks) (map token_of rest) ss h (omega (arith, length-map rest token_of)))
