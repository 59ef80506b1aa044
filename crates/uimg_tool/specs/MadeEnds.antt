-- The end of a request, with the flush of what it printed.
use Rattle.std.specs.Prelude.{⊤, Result, Ok, Err}
use Rattle.std.specs.declared.io.Error.{Error}
use Rattle.uimg_base.specs.declared.status.Status.{Status}
use Rattle.uimg_tool.specs.declared.request_fault.RequestFault.{RequestFault}
use Rattle.uimg_tool.specs.declared.request_fault.RequestFault.TheVariants as request
use Rattle.uimg_tool.specs.declared.made.Made.{Made}

-- A text that could not be printed comes before what ended the request.
abbrev pub end_printed : Result Status RequestFault → Result ⊤ Error → Result Status RequestFault
end_printed end (Ok done) = end
end_printed end (Err error) = Err (request.NotPrinted error)

abbrev pub told_end : Made → Result Status RequestFault
told_end made = end_printed made.end made.printed
