-- The fields one behind the other.
use mathlib.Core.Path.{refl}
use Rattle.format.proofs.Stores.{field_then}
use Rattle.encode_head.proofs.put_clip_info.Goals as goal

pub returns : goal.returns
returns c =
    let a = c.args in
    field_then a.out.now 40 4 176 _ refl c.put_u32.ensures
    (field_then _ 44 2 0 _ refl c.put_u32-2.ensures
    (field_then _ 46 1 a.info.clip_stream_type _ refl c.put_u32-3.ensures
    (field_then _ 47 1 a.info.application_type _ refl c.put_u32-4.ensures
    (field_then _ 48 4 0 _ refl c.put_u32-5.ensures
    (field_then _ 52 4 a.info.ts_recording_rate _ refl c.put_u32-6.ensures
    (field_then _ 56 4 a.info.number_of_source_packets _ refl c.put_u32-7.ensures
    (field_then _ 60 128 0 _ refl c.put_zeros.ensures
    c.put_format.ensures)))))))
