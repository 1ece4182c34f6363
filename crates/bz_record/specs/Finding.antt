-- A record of a leaf that was found by its key.
use Rattle.bz_slotted.specs.Page.{meta_of, extent_of}
use Rattle.bz_task.specs.declared.view.Found.{Found}
use Rattle.bz_record.specs.declared.found_record.FoundRecord.{FoundRecord}

-- its place and extent, as its metadata word says them
abbrev pub record_of : Found → FoundRecord
record_of found = record { place = found.index; extent = extent_of (meta_of found.meta) }
