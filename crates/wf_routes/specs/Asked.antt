-- What a path and a method ask for, and the methods that a path has.
use Rattle.std.specs.Prelude.{ℕ, List, [], ◌∷◌, ◌++◌, Option, Some, None, Result, Err, codes, bytes_eq, ok_or, if◌then◌else◌}
use Rattle.wf_routes.specs.declared.faults.Unrouted.{Unrouted}
use Rattle.wf_routes.specs.declared.faults.Unrouted.TheVariants.{NoRoute, BadMethod}
use Rattle.wf_routes.specs.declared.table.Call.{Call}
use Rattle.wf_routes.specs.declared.table.Path.{Path}
use Rattle.wf_routes.specs.declared.table.Route.{Route}
use Rattle.wf_routes.specs.Table.{method_text, path_row}

-- what a method asks for, of the calls of a path
abbrev pub called : List Call → List ℕ → Option Route
called [] method = None
called (call ∷ calls) method =
    if bytes_eq (method_text call.0) method then Some call.1 else called calls method

-- what a path of the table and a method ask for
abbrev pub asked : Option Path → List ℕ → Result Route Unrouted
asked None method = Err NoRoute
asked (Some path) method = ok_or (called (path_row path).calls method) BadMethod

-- the methods behind the first, each with a comma and a blank before it
abbrev pub more_allowed : List Call → List ℕ
more_allowed [] = []
more_allowed (call ∷ calls) = codes ", " ++ (method_text call.0 ++ more_allowed calls)

-- the methods of the calls, as the field `Allow` lists them
abbrev pub allow_text : List Call → List ℕ
allow_text [] = []
allow_text (call ∷ calls) = method_text call.0 ++ more_allowed calls
