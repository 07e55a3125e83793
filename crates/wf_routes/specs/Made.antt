-- The rows of the router that is made of the table.
use Rattle.std.specs.Prelude.{List, [], ◌∷◌, Result, Ok, Err}
use Rattle.matchit.specs.Rows.{RowsOf}
use Rattle.matchit.specs.Order.{placed}
use Rattle.matchit.specs.Route.{Scan, parse_route}
use Rattle.matchit.specs.Router.{RouteOf, route_from}
use Rattle.matchit.specs.declared.error.InsertError.{InsertError}
use Rattle.wf_routes.specs.declared.table.Path.{Path}
use Rattle.wf_routes.specs.Table.{path_row, paths}

abbrev pub RouterRows : Type 0
RouterRows = RowsOf (RouteOf Path)

-- the rows with one more path
abbrev pub with_path : Result Scan InsertError → Path → RouterRows → RouterRows
with_path (Ok scan) path rows = placed (scan.pattern, route_from scan path) rows
with_path (Err error) path rows = rows

-- the rows with each of these paths in turn
abbrev pub rows_made : List Path → RouterRows → RouterRows
rows_made [] rows = rows
rows_made (path ∷ later) rows = rows_made later (with_path (parse_route (path_row path).pattern) path rows)

-- the rows of the whole table
unfoldable pub router_rows : RouterRows
router_rows = rows_made paths []
