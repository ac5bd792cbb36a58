use Rattle.std.proofs.Common.{◌≡◌, ◌∙◌, ◌<◌, List, ℕ, [], ◌++◌, length, map, ap, ap₂, sym, subst, arith, cond, Some, None, Bool}
use Rattle.std.proofs.lemmas.List.{length-map}
use Rattle.span_token.specs.Documents.{characters, text_in, Doc}
use Rattle.span_token.specs.Tokens.{tokens_of}
use Rattle.dict_match.specs.declared.trie.End.{End}
use Rattle.dict_match.specs.Dictionaries.{folded, texts_of, entry_texts}
use Rattle.dict_match.specs.Tries.{Reaches}
use Rattle.dict_match.proofs.EntryLemmas.{put-some, end-is}
use Rattle.dict_match.proofs.TrieLemmas.{node-there}
use Rattle.dict_match.proofs.trie.Trie.put_entry.Goals as goal
use Rattle.dict_match.proofs.trie.Trie.put_entry.Goals.{then-exact+in_ok-spelled_out, else-exact}

pub put_end-requires : goal.put_end-requires
put_end-requires c = record { there = node-there c.node_of.new.self c.requires.trie.put c.in_ok-node.node _ (c.in_ok-node.ensures c.requires.trie.put c.requires.trie.made) }

pub returns-clause-put : goal.returns-clause-put
returns-clause-put c = λ put r.
    let texts : List (List ℕ) = texts_of c.all-tokens.result.doc c.all-tokens.result.tokens in
    let doc = c.all-tokens.ensures.doc ∙ c.in_ok-doc.ensures.document in
    let same : texts ≡ entry_texts c.args.entry.now =
    ap₂ texts_of doc (c.all-tokens.ensures.tokens ∙ ap (λ (d : Doc). tokens_of (characters d)) c.in_ok-doc.ensures.document) in
    let some : 0 < length (entry_texts c.args.entry.now) =
    omega (arith, ap length same, length-map c.all-tokens.result.tokens (text_in c.all-tokens.result.doc), c.len-number.ensures.len, c.if-number-eq0.false) in
    let spelled : c.if-exact.spelled ≡ cond c.args.exact (Some (entry_texts c.args.entry.now)) None = elim c.if-exact.branch [
      | then-exact+in_ok-spelled_out w ↦
          w.spelled-is ∙ ap Some (w.in_ok-spelled_out.ensures ∙ same) ∙ ap (λ (b : Bool). cond b (Some (entry_texts c.args.entry.now)) None) (sym w.if-exact.true)
      | else-exact w ↦
          w.spelled-is ∙ ap (λ (b : Bool). cond b (Some (entry_texts c.args.entry.now)) None) (sym w.if-exact.false)
    ] in
    let end : End = record { dict = c.args.dict; spelled = c.if-exact.spelled } in
    subst (λ (ps : List (List (List ℕ) × End)). Reaches c.put_end.new.self (put ++ ps) 0 [])
    (put-some c.args.dict c.args.exact (entry_texts c.args.entry.now) (map folded texts) end some (ap (map folded) same) (end-is c.args.dict c.args.exact c.if-exact.spelled (entry_texts c.args.entry.now) spelled))
    (c.in_ok-put_end.ensures put (map folded texts) (c.in_ok-node.ensures put r))

pub returns-clause-number : goal.returns-clause-number
returns-clause-number c =
    let doc = c.all-tokens.ensures.doc ∙ c.in_ok-doc.ensures.document in
    let same : texts_of c.all-tokens.result.doc c.all-tokens.result.tokens ≡ entry_texts c.args.entry.now =
    ap₂ texts_of doc (c.all-tokens.ensures.tokens ∙ ap (λ (d : Doc). tokens_of (characters d)) c.in_ok-doc.ensures.document) in
    omega (arith, ap length same, length-map c.all-tokens.result.tokens (text_in c.all-tokens.result.doc), c.len-number.ensures.len)
