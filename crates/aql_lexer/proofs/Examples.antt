-- Rows of the definitions, computed: what holds, and beside it what nearly does.
use Rattle.std.proofs.Common.{zero, suc, negsuc, [], ◌∷◌, All, refl, inl, inr, arith, codes}
use Rattle.std.specs.Char.{is_ascii_digit}
use Rattle.std.proofs.lemmas.Bool.{false≢true, eqb-false}
use Rattle.std.proofs.lemmas.List.Sums.{AllPass-from_list_all}
use Rattle.aql_lexer.specs.Kinds.{word, int, str}
use Rattle.aql_lexer.specs.Tokens.{IsToken, IsPiece, single, pair, goes_on_word}
use Rattle.aql_lexer.specs.Reading.{white, token, IsReading, IsFault, BeginsNothing}
use Rattle.aql_lexer.proofs.Readings.{begins_nothing_from}

-- a word goes on as long as it can
view_in_front : IsToken (word (codes "view")) (codes "view") (codes " P")
view_in_front = (refl, (refl, record { passing = AllPass-from_list_all goes_on_word (codes "iew") refl; longest = refl }))

view_in_views : ¬ (IsToken (word (codes "view")) (codes "view") (codes "s P"))
view_in_views h = false≢true h.1.1.longest

-- so does a number, and its sign stands directly before it
minus_one : IsToken (int (negsuc 0)) (codes "-1") []
minus_one = record {
  digits = codes "1";
  signed = inr refl;
  some = λ e. cc;
  longest = record { passing = AllPass-from_list_all is_ascii_digit (codes "1") refl; longest = tt };
  value = refl;
  in_range = record { sfits = omega arith };
}

minus_space : BeginsNothing (codes "a ") (codes "- 1")
minus_space = begins_nothing_from (codes "a ") (codes "- 1") refl

past_i64 : BeginsNothing [] (codes "9223372036854775808")
past_i64 = begins_nothing_from [] (codes "9223372036854775808") refl

-- the end of a comment is looked for behind its beginning
short_comment : BeginsNothing [] (codes "/*/")
short_comment = begins_nothing_from [] (codes "/*/") refl

-- a name stays on one line, and isn't empty
empty_name : BeginsNothing [] (codes "\"\"")
empty_name = begins_nothing_from [] (codes "\"\"") refl

-- a U+FEFF is white space at the very beginning alone
late_mark : BeginsNothing (codes "a") (0xEF ∷ 0xBB ∷ 0xBF ∷ [])
late_mark = begins_nothing_from (codes "a") (0xEF ∷ 0xBB ∷ 0xBF ∷ []) refl

-- a pair doesn't end a string, and gives the quote alone
in_pairs : All (IsPiece 39) (single 97 ∷ pair 39 ∷ [])
in_pairs zero d l = (eqb-false 97 39 refl, eqb-false 97 92 refl)
in_pairs (suc zero) d l = tt
in_pairs (suc (suc k)) d l = absurd (omega arith)

escaped_quote : IsToken (str (codes "a'")) (codes "'a\\''") []
escaped_quote = record { pieces = single 97 ∷ pair 39 ∷ []; in_turn = in_pairs; quoted = refl; value = refl }

-- a reading with its places, and a fault
two_tokens : IsReading (codes "a -1") (record { kind = word (codes "a"); begin = 0; line = 1 } ∷ record { kind = int (negsuc 0); begin = 2; line = 1 } ∷ [])
two_tokens = record {
  parts = token (word (codes "a")) (codes "a") ∷ white (codes " ") ∷ token (int (negsuc 0)) (codes "-1") ∷ [];
  reads = (codes " -1", refl, (refl, (refl, record { passing = λ k d l. absurd (omega arith); longest = refl })), (codes "-1", refl, inl (32, refl, refl), ([], refl, minus_one, refl)));
  tokens_are = refl;
}

hash_fault : IsFault (codes " #") 1
hash_fault = record {
  parts = white (codes " ") ∷ [];
  reads = (codes "#", refl, inl (32, refl, refl), refl);
  in_text = omega arith;
  nothing = begins_nothing_from (codes " ") (codes "#") refl;
}
