-- The record of a file: what the sections' layouts give for its bytes.
use Rattle.std.specs.Prelude.{ℕ, List, []}
use Rattle.format.specs.Bytes.{pick}
use Rattle.format.specs.ClipRecord.{Clip, Record, scalars_of, sequences_start, programs_start, cpi_start, marks_start, extensions_start, atcs_from, stcs_from, marks_from}
use Rattle.format.specs.Programs.{programs_from, streams_from}
use Rattle.format.specs.EntryPoints.{maps_from, entries_from}
use Rattle.format.specs.Extensions.{extensions_from, list_data, list_in, list_programs_of, list_streams_of}

-- the part that rewriting keeps
unfoldable pub clip_of : List ℕ → Clip
clip_of f = record {
  scalars = scalars_of f;
  atcs = atcs_from f (sequences_start f);
  stcs = stcs_from f (sequences_start f);
  programs = programs_from f (programs_start f);
  streams = streams_from f (programs_start f);
  maps = maps_from f (cpi_start f);
  entries = entries_from f (cpi_start f);
}

-- where no (2, 5) data can be read as programs there is no list, and tables 8 and 9 have no rows
unfoldable pub record_of : List ℕ → Record
record_of f =
    let extensions = extensions_from f (extensions_start f) in
    let list = list_data extensions in
    record {
      clip = clip_of f;
      marks = marks_from f (marks_start f);
      extensions = extensions;
      has_list = list_in list;
      list_programs = pick (list_in list) (list_programs_of list) [];
      list_streams = pick (list_in list) (list_streams_of list) [];
    }
