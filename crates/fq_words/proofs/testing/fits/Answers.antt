-- `fits`: the record that the words hold.
use Rattle.fq_words.proofs.testing.fits.Goals as goal

pub returns : goal.returns
returns c =
    rw (← c.decode-c.ensures, ← c.decode_lists-l.ensures) c.parts_fit.ensures
