-- The clauses of queries are read.
use Rattle.std.proofs.Common.{◌≡◌, ℕ, suc, ◌+◌, false, List, Option, Some, None, refl, arith}
use Prim.Native.String.{String}
use Rattle.aql_lexer.specs.Kinds.{Kind}
use Rattle.aql_lexer.specs.Kinds as k
use Rattle.aql_syntax.specs.Spellings.{free}
use Rattle.aql_syntax.specs.Parts.{Part, ◌▸◌, Symbol, Keyword, Optional, Separated}
use Rattle.aql_syntax.specs.Grammar.Expressions.{IsTerm}
use Rattle.aql_syntax.specs.Grammar.Queries.{AreConds, IsPolicy, IsCons, IsLimit, AreKeys, AreClauses, IsTail}
use Rattle.aql_syntax.specs.Places.{placed_optional, placed_separated, placed_clause, placed_term, placed_output, placed_cons, placed_limit, placed_clauses, placed_tail}
use Rattle.aql_syntax.specs.Trees.{Name, Number, Term, Cons, Clauses, Tail}
use Rattle.aql_parser.specs.Readers.{◌▷◌, optional, separated, sees, sees_sign, keyword, a_string}
use Rattle.aql_parser.specs.Reading.Expressions.{read_term}
use Rattle.aql_parser.specs.Reading.Queries.{read_conds, read_keys, made_cons, read_cons, read_limit, made_clauses, read_keys_and_limit, read_clauses, made_tail, read_tail}
use Rattle.aql_parser.proofs.Rules.{Reads, takes_keyword, reads_keyword, reads_pair, reads_after, reads_mapped, reads_after_mapped, reads_where, reads_optional, reads_as}
use Rattle.aql_parser.proofs.ListRules.{reads_separated, reads_clause}
use Rattle.aql_parser.proofs.NameRules.{reads_string, reads_int}
use Rattle.aql_parser.proofs.ExpressionRules.{StopsTerm, reads_term, reads_arguments}
use Rattle.aql_parser.proofs.ItemRules.{keyword_stops_term}
use Rattle.aql_parser.proofs.EndRules.{IsClauseWord, where_word, having_word, consolidate_word, group_word, order_word, limit_word, Ends, ends_stops_term, ends_no_comma, ends_no_and, ends_no_using, ends_no_where, ends_no_having, ends_no_consolidate, ends_no_group, ends_no_order, ends_no_limit, ends_weaker, keyword_ends, optional_ends, clause_ends}

module _ (d : ℕ) where
  reads_and_terms : Reads (separated (sees "and") (read_term d)) (Separated (Keyword free "and") (IsTerm free)) (placed_separated placed_term) d (λ ks. StopsTerm ks × (sees "and" ks ≡ false))
  reads_and_terms = reads_separated (sees "and") d (takes_keyword "and") (reads_term d) (λ ks h. keyword_stops_term "and" ks _ ((takes_keyword "and").found ks h))

  reads_conds : (w : String) → ((ks : List Kind) → Ends 1 ks → sees w ks ≡ false) → Reads (read_conds w d) (AreConds free (Keyword free w)) (λ n conds. placed_clause placed_term (n + 1) n conds) d (Ends 1)
  reads_conds w stops =
      reads_where d
      (reads_clause (sees w) (separated (sees "and") (read_term d)) placed_term (λ n. n + 1) d (reads_after d (reads_keyword d w) reads_and_terms))
      (λ ks e. ((ends_stops_term e, ends_no_and (ends_weaker 0 (omega arith) e)), stops ks e))

  abbrev two_words : (w v : String) → Part
  two_words w v = Keyword free w ▸ Keyword free v

  reads_keys : (i : ℕ) (w : String) → ((ks : List Kind) → Ends (suc i) ks → sees w ks ≡ false) → Reads (read_keys w d) (AreKeys free (Keyword free w)) (λ n keys. placed_clause placed_term (n + 1 + 1) n keys) d (Ends (suc i))
  reads_keys i w stops =
      reads_where d
      (reads_clause (sees w) (keyword "by" ▷ separated (sees_sign ",") (read_term d)) placed_term (λ n. n + 1 + 1) d
      (reads_as d (reads_after d (reads_keyword d w) (reads_after d (reads_keyword d "by") (reads_arguments d (reads_term d))))
      (λ keys. (Keyword free w ▸ Keyword free "by") ▸ Separated (Symbol ",") (IsTerm free) keys)
      (λ keys ks rest h. (h.2.0, (h.0, h.1, h.2.1), h.2.2))
      (λ keys ks rest h. (h.1.0, h.1.1, (h.0, h.1.2, h.2)))))
      (λ ks e. ((ends_stops_term e, ends_no_comma e), stops ks e))

  -- neither an expression nor a policy goes on here
  abbrev StopsCons : List Kind → Type 0
  StopsCons ks = StopsTerm ks × (sees "using" ks ≡ false)

  reads_policy : Reads (optional (sees "using") a_string) (Optional (IsPolicy free)) (placed_optional placed_output) d StopsCons
  reads_policy =
      reads_where d (reads_optional (sees "using") _ d (reads_after d (reads_keyword d "using") (reads_string d))) (λ ks stops. (tt, stops.1))

  policy_stops : (o : Option Name) (ks rest : List Kind) → StopsCons rest → Optional (IsPolicy free) o ks rest → StopsTerm ks
  policy_stops None ks rest stops h = rw h stops.0
  policy_stops (Some policy) ks rest stops h = keyword_stops_term "using" ks h.0 h.1

  reads_cons : Reads (read_cons d) (Optional (IsCons free)) (placed_optional placed_cons) d (Ends 2)
  unfolding read_cons
  reads_cons =
      reads_where d
      (reads_optional (sees "consolidate") _ d
      (reads_after_mapped (keyword "consolidate") _ d made_cons
      (reads_after d (reads_keyword d "consolidate") (reads_after d (reads_keyword d "on") (reads_pair d (reads_term d) reads_policy policy_stops)))
      (IsCons free) placed_cons (λ parts ks rest h. h)
      (λ cons ks rest h. record { of = (cons.target, cons.policy); part = h; places = λ n. refl; next = λ n. refl })))
      (λ ks e. ((ends_stops_term e, ends_no_using (ends_weaker 0 (omega arith) e)), ends_no_consolidate e))

  reads_limit : Reads read_limit (Optional (IsLimit free)) (placed_optional placed_limit) d (Ends 5)
  reads_limit =
      reads_where d (reads_optional (sees "limit") _ d (reads_after d (reads_keyword d "limit") (reads_int d))) (λ ks e. (tt, ends_no_limit e))

  limit_ends : (o : Option Number) (ks rest : List Kind) → Ends 5 rest → Optional (IsLimit free) o ks rest → Ends 4 ks
  limit_ends o ks rest e h = optional_ends 4 "limit" limit_word (IsLimit free) (λ number ks rest h. keyword_ends 4 "limit" limit_word ks h.0 h.1) o ks rest e h

  cons_ends : (o : Option Cons) (ks rest : List Kind) → Ends 2 rest → Optional (IsCons free) o ks rest → Ends 1 ks
  cons_ends o ks rest e h = optional_ends 1 "consolidate" consolidate_word (IsCons free) (λ cons ks rest h. keyword_ends 1 "consolidate" consolidate_word ks h.0 h.1) o ks rest e h

  keys_end : (i : ℕ) (w : String) → IsClauseWord i w → (keys : List Term) (ks rest : List Kind) → Ends (suc i) rest → AreKeys free (Keyword free w) keys ks rest → Ends i ks
  keys_end i w c keys ks rest e h = clause_ends i (Keyword free w ▸ Keyword free "by") (Symbol ",") (IsTerm free) (λ ks rest h. keyword_ends i w c ks h.0 h.1) keys ks rest e h

  pub conds_end : (w : String) → IsClauseWord 0 w → (conds : List Term) (ks rest : List Kind) → Ends 1 rest → AreConds free (Keyword free w) conds ks rest → Ends 0 ks
  conds_end w c conds ks rest e h = clause_ends 0 (Keyword free w) (Keyword free "and") (IsTerm free) (λ ks rest h. keyword_ends 0 w c ks rest h) conds ks rest e h

  pub reads_clauses : Reads (read_clauses d) (AreClauses free) placed_clauses d (Ends 5)
  unfolding read_clauses read_keys_and_limit
  reads_clauses =
      reads_mapped d made_clauses
      (reads_pair d (reads_conds "where" (λ ks e. ends_no_where e))
      (reads_pair d reads_cons
      (reads_pair d (reads_keys 2 "group" (λ ks e. ends_no_group e))
      (reads_pair d (reads_keys 3 "order" (λ ks e. ends_no_order e)) reads_limit
      (λ b ks rest e h. limit_ends b ks rest e h))
      (λ b ks rest e h. keys_end 3 "order" order_word b.0 ks h.0 (limit_ends b.1 h.0 rest e h.2) h.1))
      (λ b ks rest e h. keys_end 2 "group" group_word b.0 ks h.0 (keys_end 3 "order" order_word b.1.0 h.0 h.2.0 (limit_ends b.1.1 h.2.0 rest e h.2.2) h.2.1) h.1))
      (λ b ks rest e h. cons_ends b.0 ks h.0 (keys_end 2 "group" group_word b.1.0 h.0 h.2.0 (keys_end 3 "order" order_word b.1.1.0 h.2.0 h.2.2.0 (limit_ends b.1.1.1 h.2.2.0 rest e h.2.2.2) h.2.2.1) h.2.1) h.1))
      (AreClauses free) placed_clauses (λ parts ks rest h. h)
      (λ clauses ks rest h. record {
        of = (clauses.conds, (clauses.cons, (clauses.group, (clauses.order, clauses.limit))));
        part = h;
        places = λ n. refl;
        next = λ n. refl;
      })

  pub reads_tail : Reads (read_tail d) (IsTail free) placed_tail d (Ends 5)
  unfolding read_tail
  reads_tail =
      reads_mapped d made_tail
      (reads_pair d (reads_conds "having" (λ ks e. ends_no_having e))
      (reads_pair d reads_cons reads_limit
      (λ b ks rest e h. ends_weaker 2 (omega arith) (limit_ends b ks rest e h)))
      (λ b ks rest e h. cons_ends b.0 ks h.0 (ends_weaker 2 (omega arith) (limit_ends b.1 h.0 rest e h.2)) h.1))
      (IsTail free) placed_tail (λ parts ks rest h. h)
      (λ tail ks rest h. record {
        of = (tail.conds, (tail.cons, tail.limit));
        part = h;
        places = λ n. refl;
        next = λ n. refl;
      })

  -- the clauses end what stands before them
  pub clauses_end : (clauses : Clauses) (ks rest : List Kind) → Ends 5 rest → AreClauses free clauses ks rest → Ends 0 ks
  clauses_end clauses ks rest e h =
      conds_end "where" where_word clauses.conds ks h.0 (cons_ends clauses.cons h.0 h.2.0 (keys_end 2 "group" group_word clauses.group h.2.0 h.2.2.0 (keys_end 3 "order" order_word clauses.order h.2.2.0 h.2.2.2.0 (limit_ends clauses.limit h.2.2.2.0 rest e h.2.2.2.2) h.2.2.2.1) h.2.2.1) h.2.1) h.1

  pub tail_ends : (tail : Tail) (ks rest : List Kind) → Ends 5 rest → IsTail free tail ks rest → Ends 0 ks
  tail_ends tail ks rest e h =
      conds_end "having" having_word tail.conds ks h.0 (cons_ends tail.cons h.0 h.2.0 (ends_weaker 2 (omega arith) (limit_ends tail.limit h.2.0 rest e h.2.2)) h.2.1) h.1
