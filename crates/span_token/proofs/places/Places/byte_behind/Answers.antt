use Rattle.span_token.proofs.BlockLemmas.{ascii_place}
use Rattle.span_token.proofs.places.Places.byte_behind.Goals as goal

pub returns-in-Ascii : goal.returns-in-Ascii
returns-in-Ascii c = ascii_place c.args.text.now c.args.place (rw c.in-Ascii.is at c.requires.fits) c.requires.exists
