-- From what each step of compiling answers to the program of a text, or its fault.
use Rattle.std.proofs.Common.{◌≡◌, ℕ, List, [], ◌∷◌, map, ap, subst, refl}
use Rattle.aqlx_top.specs.Run.{program_of}
use Rattle.span_token.specs.declared.refusal.Failure.{Failure}
use Rattle.span_token.specs.declared.refusal.Failure.TheVariants.{OutOfMemory, Fault}
use Rattle.aql_lexer.specs.Kinds.{Kind, kind_of, token_of, kinds_of}
use Rattle.aql_lexer.specs.declared.token.Tok.{Tok}
use Rattle.aql_lexer.specs.Reading.{IsDecided}
use Rattle.aql_parser.specs.declared.parsing.SyntaxFault.{SyntaxFault}
use Rattle.aql_parser.specs.Faults.{kinds_in, IsSyntaxFault}
use Rattle.aql_parser.specs.Faults as parsing
use Rattle.aql_syntax.specs.Trees.{Statement}
use Rattle.aql_syntax.specs.Programs.{AreTokensOf, placed_in}
use Rattle.algebra.specs.Plans.{Parts}
use Rattle.aqlx_top.specs.declared.status.ProgramFault.{ProgramFault}
use Rattle.aqlx_top.specs.declared.status.ProgramFault.TheVariants.{Text, Large, Lex, Syntax, Name, Mistyped}
use Rattle.aqlx_top.specs.declared.status.What.TheVariants.{Bytes, Statements, Nesting}
use Rattle.aqlx_top.specs.Plans.{IsPlanOf}
use Rattle.aqlx_top.specs.ProgramFaults.{HasCause, HasOnlyFault, HasTooMany, IsTooDeep, IsTooLargeFor}
use Rattle.aqlx_top.specs.ProgramTexts.{ReadsAs, IsWithinLimits, HoldsStatements}
use Rattle.aqlx_top.specs.Programs.{IsBuiltFrom, IsRefusedFor}
use Rattle.view_graph.specs.Answers.{IsNameDecided}
use Rattle.aqlx_top.proofs.ProgramLaws.{only_many, only_deep, only_syntax, only_name, only_type, has_no_fault}

-- the kinds of tokens are seen in two ways
kinds_seen : (toks : List Tok) → kinds_of toks ≡ kinds_in (map token_of toks)
kinds_seen [] = refl
kinds_seen (tok ∷ toks) = ap (λ (ks : List Kind). kind_of tok.kind ∷ ks) (kinds_seen toks)

module _ (text : List ℕ) (toks : List Tok) (decided : IsDecided text) (reads : ReadsAs text (map token_of toks)) where
  as_seen : (P : List Kind → Type 0) → P (kinds_of toks) → P (kinds_in (map token_of toks))
  as_seen P h = subst P (kinds_seen toks) h

  -- more than a program may have
  pub refused_sizes : (failure : Failure ProgramFault) → IsTooLargeFor (kinds_of toks) failure → HasCause text failure
  refused_sizes (Fault (Large Statements number)) h = only_many text (map token_of toks) number decided reads (as_seen (λ (ks : List Kind). HasTooMany ks number) h)
  refused_sizes (Fault (Large Nesting number)) h = only_deep text (map token_of toks) number decided reads (as_seen (λ (ks : List Kind). IsTooDeep ks number) h)
  refused_sizes (Fault (Large Bytes number)) h = absurd h
  refused_sizes (Fault (Text place)) h = absurd h
  refused_sizes (Fault (Lex fault)) h = absurd h
  refused_sizes (Fault (Syntax fault)) h = absurd h
  refused_sizes (Fault (Name fault)) h = absurd h
  refused_sizes (Fault (Mistyped statement place rule)) h = absurd h
  refused_sizes OutOfMemory h = absurd h

  module _ (within : IsWithinLimits (kinds_of toks)) (one : parsing.IsDecided (map token_of toks)) where
    -- a statement without a tree
    pub refused_syntax : (fault : SyntaxFault) → IsSyntaxFault (map token_of toks) fault.statement fault.line → HasOnlyFault text (Syntax fault)
    refused_syntax fault found = only_syntax text (map token_of toks) fault decided reads (as_seen IsWithinLimits within) one found

    module _ (trees : List Statement) (are : AreTokensOf (kinds_of toks) trees) (placed : placed_in (kinds_of toks) trees ≡ trees) where
      abbrev held : HoldsStatements text trees
      held = record {
        tokens = map token_of toks;
        reads = reads;
        within = as_seen IsWithinLimits within;
        trees = as_seen (λ (ks : List Kind). AreTokensOf ks trees) are;
        placed = as_seen (λ (ks : List Kind). placed_in ks trees ≡ trees) placed;
      }

      module _ (names : IsNameDecided trees) where
        pub built_from : (plan : Parts) → IsBuiltFrom trees plan → IsPlanOf text plan
        built_from plan built = record {
          program = program_of built.typed;
          holds = record {
            statements = trees;
            holds = held;
            order = built.order;
            resolved = built.resolved;
            typed = built.typed;
            is_typed = built.is_typed;
            program_is = refl;
            faultless = has_no_fault text trees built.order built.typed decided held one names built.resolved built.is_typed;
          };
          shows = built.shows;
          normal = built.normal;
        }

        pub refused_form : (failure : Failure ProgramFault) → IsRefusedFor (map token_of toks) trees failure → HasCause text failure
        refused_form (Fault (Name fault)) h = only_name text trees fault decided held one names h
        refused_form (Fault (Mistyped statement place rule)) h = only_type text trees statement place rule decided held one names h
        refused_form (Fault (Large what number)) h = absurd h
        refused_form (Fault (Text place)) h = absurd h
        refused_form (Fault (Lex fault)) h = absurd h
        refused_form (Fault (Syntax fault)) h = absurd h
        refused_form OutOfMemory h = tt
