-- The scalars, read field by field.
use Prim.Native.Nat.{ℕ}
use mathlib.Core.Path.{◌≡◌}
use mathlib.Core.List.{List}
use Rattle.format.specs.Bytes.{be_at}
use Rattle.format.specs.ClipRecord.{letters_of, version_of, scalars_of}
use Rattle.clip_sections.specs.Infos.{clip_info_of}

-- each field stands where the scalars have it
pub info_read : (f : List ℕ) {l a b c d e g h : ℕ} → l ≡ letters_of f → a ≡ version_of f → b ≡ be_at f 46 1 → c ≡ be_at f 47 1 → d ≡ be_at f 52 4 → e ≡ be_at f 56 4 → g ≡ be_at f 188 1 → h ≡ be_at f 190 4
    → record { letters = l; version = a; clip_stream_type = b; application_type = c; ts_recording_rate = d; number_of_source_packets = e; validity_flags = g; format_id = h } ≡ clip_info_of f
unfolding scalars_of
info_read f pl pa pb pc pd pe pg ph = λ i. record {
  letters = pl i;
  version = pa i;
  clip_stream_type = pb i;
  application_type = pc i;
  ts_recording_rate = pd i;
  number_of_source_packets = pe i;
  validity_flags = pg i;
  format_id = ph i;
}
