-- A batch came behind the bytes that were there, and was loaded.
use Rattle.inputs.proofs.Reading.{room_same, filled_behind}
use Rattle.listing.proofs.load_next.Goals as goal

pub returns-clause-came : goal.returns-clause-came
returns-clause-came c =
    let batch = c.fill in
    let loaded = c.load_batch-loaded.ensures in
    filled_behind c.args.had.bytes (room_same c.requires.room batch.auto.space)
    batch.ensures.fits.1 batch.ensures.fits.0 batch.ensures.kept loaded.answer loaded.later
