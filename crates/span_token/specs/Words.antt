-- The characters of which tokens are made.
use Rattle.std.specs.Prelude.{ℕ, Bool, true, false, ◌||◌}
use Rattle.unicode.specs.Binary.{is_alphabetic}
use Rattle.ucd_category.specs.GeneralCategory.{general_category}
use Rattle.ucd_category.specs.declared.GeneralCategory.{GeneralCategory}
use Rattle.ucd_category.specs.declared.GeneralCategory.TheVariants.{NonspacingMark, SpacingMark, DecimalNumber, LetterNumber, OtherNumber}

-- Nd, Nl, No, Mn or Mc
abbrev pub is_number_or_mark : GeneralCategory → Bool
is_number_or_mark NonspacingMark = true
is_number_or_mark SpacingMark = true
is_number_or_mark DecimalNumber = true
is_number_or_mark LetterNumber = true
is_number_or_mark OtherNumber = true
is_number_or_mark _ = false

-- a word character: it is Alphabetic, a number, or a mark that combines with the character before
unfoldable pub is_word_char : ℕ → Bool
is_word_char c = is_alphabetic c || is_number_or_mark (general_category c)
