-- The answer of reading, as the code holds it.
use Rattle.std.specs.Prelude.{ℕ, List, Bool, length, Result, Ok, Err}
use Rattle.format.specs.ClipRecord.{Scalars, marks_start, marks_from}
use Rattle.format.specs.Tables.{Nine, map_nine}
use Rattle.format.specs.Refusals.{ReadAnswer, accepted}
use Rattle.clip_sections.specs.Infos.{clip_info_of}
use Rattle.clip_sections.specs.declared.info.ClipInfo.{ClipInfo}
use Rattle.nine_tables.specs.declared.Rows.{Rows}
use Rattle.clip_prepare.specs.Prepare.{rows_by, error_answer}
use Rattle.clip_prepare.specs.declared.ReadError.{ReadError}
use Rattle.clip_information.specs.declared.read.Accepted.{Accepted}

-- the nine lent tables
abbrev pub nine_tables_of : (atcs stcs programs streams maps entries extensions list_programs list_streams : List ℕ) → Nine (List ℕ)
nine_tables_of t1 t2 t3 t4 t5 t6 t7 t8 t9 = record {
  atcs = t1;
  stcs = t2;
  programs = t3;
  streams = t4;
  maps = t5;
  entries = t6;
  extensions = t7;
  list_programs = t8;
  list_streams = t9;
}

-- their lengths in bytes
abbrev pub lengths_of : Nine (List ℕ) → Rows
lengths_of tables = rows_by (map_nine length tables)

-- the answer to an accepted file with these rows
abbrev pub accepted_of : List ℕ → Rows → Bool → Accepted
accepted_of f rows has = record { info = clip_info_of f; marks = marks_from f (marks_start f); rows = rows; has_list = has }

-- the scalars and the nine numbers
abbrev pub scalars_by : ClipInfo → Scalars
scalars_by c = record {
  letters = c.letters;
  version = c.version;
  stream_type = c.clip_stream_type;
  application_type = c.application_type;
  rate = c.ts_recording_rate;
  packets = c.number_of_source_packets;
  validity_flags = c.validity_flags;
  format_id = c.format_id;
}

-- the code's nine counts as those of the definition
abbrev pub nine_by : Rows → Nine ℕ
nine_by r = record {
  atcs = r.atcs;
  stcs = r.stcs;
  programs = r.programs;
  streams = r.streams;
  maps = r.maps;
  entries = r.entries;
  extensions = r.extensions;
  list_programs = r.list_programs;
  list_streams = r.list_streams;
}

-- the code's answer as that of the definition
abbrev pub read_answer_of : Result Accepted ReadError → ReadAnswer
read_answer_of (Ok a) = accepted (record { scalars = scalars_by a.info; marks = a.marks; rows = nine_by a.rows; has_list = a.has_list })
read_answer_of (Err error) = error_answer error
