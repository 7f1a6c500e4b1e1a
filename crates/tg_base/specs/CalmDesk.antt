-- What a desk in memory without faults is.
use Rattle.std.specs.Prelude.{ℕ, List, Option, Some}
use Rattle.std.specs.String.{string_bytes}
use Rattle.tg_base.specs.declared.calm_desk.CalmDesk.{CalmDesk}
use Rattle.tg_base.specs.Files.{two_files}
use Rattle.tg_base.specs.Moment.{Moment}
use Rattle.tg_base.specs.Outputs.{output_at}
use Rattle.tg_base.specs.Session.{names_asked, opened_of, is_readable, rest_of}

-- the bytes of the file of each name
abbrev pub files_of : CalmDesk → List ℕ → Option (List ℕ)
files_of desk = two_files (string_bytes desk.name) desk.source.items desk.test.items

abbrev pub moment_of : CalmDesk → Moment
moment_of desk = record {
  files = Some (files_of desk);
  asked = names_asked desk.session;
  opened = opened_of desk.session;
  readable = is_readable desk.session;
  outputs = output_at desk.session.outputs;
  read_faults = 0;
  write_faults = 0;
}

-- what the open file has left
abbrev pub left_in : CalmDesk → List ℕ
left_in desk = rest_of desk.session
