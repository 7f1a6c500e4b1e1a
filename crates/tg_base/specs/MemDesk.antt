-- What a desk in memory with failing calls is, and when its calls fail.
use Rattle.std.specs.Prelude.{ℕ, ◌+◌, ◌⊎◌, List, Option, Some, IsNone}
use Rattle.tg_base.specs.declared.mem_desk.MemDesk.{MemDesk}
use Rattle.tg_base.specs.Calls.{IsToFail}
use Rattle.tg_base.specs.Files.{file_named}
use Rattle.tg_base.specs.Moment.{Moment}
use Rattle.tg_base.specs.Outputs.{output_at}
use Rattle.tg_base.specs.Session.{names_asked, opened_of, is_readable, rest_of}

-- the bytes of the file of each name
abbrev pub files_of : MemDesk → List ℕ → Option (List ℕ)
files_of desk = file_named desk.files.items

abbrev pub moment_of : MemDesk → Moment
moment_of desk = record {
  files = Some (files_of desk);
  asked = names_asked desk.session;
  opened = opened_of desk.session;
  readable = is_readable desk.session;
  outputs = output_at desk.session.outputs;
  read_faults = desk.reads.faults;
  write_faults = desk.writes.faults;
}

-- what the open file has left
abbrev pub left_in : MemDesk → List ℕ
left_in desk = rest_of desk.session

-- how many opens and reads were made, counted up to 2 ^ 64 - 1
abbrev pub reads_so_far : MemDesk → ℕ
reads_so_far desk = desk.reads.made

abbrev pub writes_so_far : MemDesk → ℕ
writes_so_far desk = desk.writes.made

-- the numbers of the opens and reads that are to fail
abbrev pub failing_reads_of : MemDesk → List ℕ
failing_reads_of desk = desk.reads.failing.items

abbrev pub failing_writes_of : MemDesk → List ℕ
failing_writes_of desk = desk.writes.failing.items

-- the next read is to fail
abbrev pub ReadFails : MemDesk → Type 0
ReadFails desk = IsToFail (failing_reads_of desk) (reads_so_far desk + 1)

-- the next open is to fail, also where there is no file of its name
abbrev pub OpenFails : MemDesk → List ℕ → Type 0
OpenFails desk name = ReadFails desk ⊎ IsNone (files_of desk name)

-- the next write is to fail
abbrev pub WriteFails : MemDesk → Type 0
WriteFails desk = IsToFail (failing_writes_of desk) (writes_so_far desk + 1)
