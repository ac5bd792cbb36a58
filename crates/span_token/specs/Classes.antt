-- What a character is to the tokens, as the code decides it.
use Rattle.std.specs.Prelude.{ℕ, cond}
use Rattle.unicode.specs.Binary.{is_white_space}
use Rattle.span_token.specs.Words.{is_word_char}
use Rattle.span_token.specs.declared.classes.Class.{Class}
use Rattle.span_token.specs.declared.classes.Class.TheVariants.{Word, Space, Mark}

-- a word character, a white space that isn't one, or another character
unfoldable pub class_of : ℕ → Class
class_of c = cond (is_word_char c) Word (cond (is_white_space c) Space Mark)
