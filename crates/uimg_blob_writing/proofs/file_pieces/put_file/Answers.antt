use Rattle.std.proofs.Common.{rules, true, is_err}
use Rattle.uimg_blob_writing.proofs.OpenedLaws.{each_one}
use Rattle.uimg_blob_writing.proofs.file_pieces.put_file.Goals as goal

pub returns-in_default : goal.returns-in_default
returns-in_default g c = record {
  files = search rules;
  opened = each_one true c.args.name.now _ _ c.open.ensures.noted;
  faults = search rules;
  found = search rules;
  reads = search rules;
  in_memory = search rules;
  kept = search rules;
  written = search rules;
}

pub returns : goal.returns
returns g c = record {
  files = search rules;
  opened = each_one (is_err c.put_source.result) c.args.name.now _ _ c.open.ensures.noted;
  faults = search rules;
  found = search rules;
  reads = search rules;
  in_memory = search rules;
  kept = search rules;
  written = search rules;
}
