-- The classes of ASCII characters, by a table.
use Rattle.std.proofs.Common.{◌≡◌, ◌<◌, ℕ, Bool, true, false, cond, ◌||◌, get_or, refl, sym}
use Rattle.ucd_table.proofs.Computing.{tables}
use Rattle.ucd_table.proofs.Stepped.{Stepped, map_stepped, zip_stepped}
use Rattle.ucd_table.proofs.Facts.{Stepped-below}
use Rattle.ucd_category.specs.GeneralCategory.{general_category}
use Rattle.ucd_category.proofs.GeneralCategoryLemmas.{general_category_stepped}
use Rattle.unicode.specs.Binary.{is_alphabetic, is_white_space}
use Rattle.unicode.proofs.BinaryLemmas.{is_alphabetic_stepped, is_white_space_stepped}
use Rattle.span_token.specs.Words.{is_number_or_mark, is_word_char}
use Rattle.span_token.specs.Classes.{class_of}
use Rattle.span_token.specs.declared.classes.TheConstants.{ASCII}
use Rattle.span_token.specs.declared.classes.Class.{Class}
use Rattle.span_token.specs.declared.classes.Class.TheVariants.{Word, Space, Mark}

unfoldable is_word_char_stepped : Stepped is_word_char
unfolding is_word_char is_alphabetic_stepped general_category_stepped
is_word_char_stepped =
    zip_stepped ◌||◌ is_alphabetic (λ c. is_number_or_mark (general_category c)) is_alphabetic_stepped
    (map_stepped is_number_or_mark general_category general_category_stepped)

unfoldable class_of_stepped : Stepped class_of
unfolding class_of is_word_char_stepped is_white_space_stepped
class_of_stepped =
    zip_stepped (λ word space. cond word Word (cond space Space Mark)) is_word_char is_white_space is_word_char_stepped is_white_space_stepped

abbrev same_class : Class → Class → Bool
same_class Word Word = true
same_class Space Space = true
same_class Mark Mark = true
same_class _ _ = false

same_class-true : (a b : Class) → same_class a b ≡ true → b ≡ a
same_class-true Word Word e = refl
same_class-true Word Space e = absurd cc
same_class-true Word Mark e = absurd cc
same_class-true Space Word e = absurd cc
same_class-true Space Space e = refl
same_class-true Space Mark e = absurd cc
same_class-true Mark Word e = absurd cc
same_class-true Mark Space e = absurd cc
same_class-true Mark Mark e = refl

pub class_of-ascii : (c : ℕ) → c < 128 → get_or ASCII c Word ≡ class_of c
unfolding tables class_of_stepped
class_of-ascii c h =
    same_class-true _ _ (Stepped-below class_of class_of_stepped (λ x v. same_class v (get_or ASCII x Word)) 128 refl c h)

word_by : (w s : Bool) → cond w Word (cond s Space Mark) ≡ Word → w ≡ true
word_by true s e = refl
word_by false true e = cc
word_by false false e = cc

space_by : (w s : Bool) → cond w Word (cond s Space Mark) ≡ Space → (w ≡ false) × (s ≡ true)
space_by true s e = (cc, cc)
space_by false true e = (refl, refl)
space_by false false e = (cc, cc)

mark_by : (w s : Bool) → cond w Word (cond s Space Mark) ≡ Mark → (w ≡ false) × (s ≡ false)
mark_by true s e = (cc, cc)
mark_by false true e = (cc, cc)
mark_by false false e = (refl, refl)

pub word_class : (c : ℕ) → Word ≡ class_of c → is_word_char c ≡ true
unfolding class_of
word_class c e = word_by (is_word_char c) (is_white_space c) (sym e)

pub space_class : (c : ℕ) → Space ≡ class_of c → (is_word_char c ≡ false) × (is_white_space c ≡ true)
unfolding class_of
space_class c e = space_by (is_word_char c) (is_white_space c) (sym e)

pub mark_class : (c : ℕ) → Mark ≡ class_of c → (is_word_char c ≡ false) × (is_white_space c ≡ false)
unfolding class_of
mark_class c e = mark_by (is_word_char c) (is_white_space c) (sym e)
