-- Each of the three forms has its own length and bytes: the common head, and what the form has behind it.
use Prim.Native.Nat.{◌+◌, ◌*◌, ◌/◌, ◌%◌, ◌≤◌}
use mathlib.Core.Path.{refl, sym}
use mathlib.Core.List.{◌++◌}
use native.Mathlib.Nat.{add_assoc}
use native.Mathlib.Omega.{arith}
use lib.ListN.{length, get_or}
use Rattle.format.specs.Bytes.{bytes_of}
use Rattle.row_values.proofs.Lengths.{video_length, short_length, tagged_length}
use Rattle.format.proofs.Stores.{part_then, field_then}
use Rattle.row_bytes.proofs.Fields.{head_of, head_length, video_bytes, short_bytes, tagged_bytes}
use borrow.Author.Rules.{rules}
use Rattle.row_bytes.proofs.put_stream.Goals as goal

pub put_stream_head-requires : goal.put_stream_head-requires
put_stream_head-requires c = omega (arith, video_length c.args.row c.is_video.ensures c.if-is_video.true, c.requires)

pub put_u32-requires : goal.put_u32-requires
put_u32-requires c =
    let room : c.args.at + 6 ≤ length c.args.out.now = rw (video_length c.args.row c.is_video.ensures c.if-is_video.true) at c.requires in search rules

pub returns-then-is_video : goal.returns-then-is_video
returns-then-is_video c =
    let a = c.args in
    let r = a.row in record {
      value = rw (video_length r c.is_video.ensures c.if-is_video.true);
      out_after = rw (video_bytes r c.is_video.ensures c.if-is_video.true)
          (part_then a.out.now a.at 5 (head_of r 3) (bytes_of 1 (get_or r 3 0 % 16 * 16)) (head_length r 3) refl c.put_stream_head.ensures c.put_u32.ensures);
    }

pub put_stream_head-requires-then-row-eq0 : goal.put_stream_head-requires-then-row-eq0
put_stream_head-requires-then-row-eq0 c = omega (arith, short_length c.args.row c.is_video.ensures c.if-is_video.false c.if-row-eq0.true, c.requires)

pub returns-then-row-eq0 : goal.returns-then-row-eq0
returns-then-row-eq0 c =
    let r = c.args.row in record {
      value = rw (short_length r c.is_video.ensures c.if-is_video.false c.if-row-eq0.true);
      out_after = rw (short_bytes r c.is_video.ensures c.if-is_video.false c.if-row-eq0.true) c.put_stream_head-then-row-eq0.ensures;
    }

pub put_stream_head-requires-else-row-eq0 : goal.put_stream_head-requires-else-row-eq0
put_stream_head-requires-else-row-eq0 c = omega (arith, tagged_length c.args.row c.is_video.ensures c.if-is_video.false c.if-row-eq0.false, c.requires)

pub put_u32-requires-else-row-eq0 : goal.put_u32-requires-else-row-eq0
put_u32-requires-else-row-eq0 c =
    let room : c.args.at + 8 ≤ length c.args.out.now = rw (tagged_length c.args.row c.is_video.ensures c.if-is_video.false c.if-row-eq0.false) at c.requires in search rules

pub put_u32-requires-else-row-eq0-2 : goal.put_u32-requires-else-row-eq0-2
put_u32-requires-else-row-eq0-2 c =
    let room : c.args.at + 8 ≤ length c.args.out.now = rw (tagged_length c.args.row c.is_video.ensures c.if-is_video.false c.if-row-eq0.false) at c.requires in search rules

pub returns-else-row-eq0 : goal.returns-else-row-eq0
returns-else-row-eq0 c =
    let a = c.args in
    let r = a.row in record {
      value = rw (tagged_length r c.is_video.ensures c.if-is_video.false c.if-row-eq0.false);
      out_after = rw (tagged_bytes r c.is_video.ensures c.if-is_video.false c.if-row-eq0.false)
          (part_then a.out.now a.at 5 (head_of r 5) (bytes_of 1 (get_or r 4 0 / 65536) ++ bytes_of 2 (get_or r 4 0)) (head_length r 5) refl c.put_stream_head-else-row-eq0.ensures
          (field_then _ (a.at + 5) 1 (get_or r 4 0 / 65536) _ (sym (add_assoc a.at 5 1)) c.put_u32-else-row-eq0.ensures c.put_u32-else-row-eq0-2.ensures));
    }
