use Rattle.std.proofs.Common.{refl, ◌∙◌}
use Rattle.message_log.specs.Body.{fields_in}
use Rattle.message_log.proofs.PutThenRead.{two_read, four_read}
use Rattle.message_log.proofs.RoundTrip.{same_fields}
use Rattle.message_log.proofs.fields.FieldsFromRefArrayU826.from.Goals as goal

pub returns : goal.returns
returns c =
    let body = c.args.body.now in
    same_fields (fields_in body) _ _ _ _ _ _ _ _ refl
    (four_read body _ _ _ c.from_be_bytes.ensures c.bytes_at.ensures)
    (four_read body _ _ _ c.from_be_bytes-2.ensures c.bytes_at-2.ensures)
    (four_read body _ _ _ c.from_be_bytes-3.ensures c.bytes_at-3.ensures)
    (four_read body _ _ _ c.from_be_bytes-4.ensures c.bytes_at-4.ensures)
    (four_read body _ _ _ c.from_be_bytes-5.ensures c.bytes_at-5.ensures)
    (c.from_bits.ensures ∙ two_read body _ _ _ c.from_be_bytes-6.ensures c.bytes_at-6.ensures)
    (c.from_bits-2.ensures ∙ two_read body _ _ _ c.from_be_bytes-7.ensures c.bytes_at-7.ensures)
