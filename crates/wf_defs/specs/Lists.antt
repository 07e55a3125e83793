-- Lists of nodes as the reader holds them: their places are written only where they are asked for.
use Rattle.std.specs.Prelude.{ℕ, List, codes}
use Rattle.wf_defs.specs.declared.lists.NodeList.{NodeList}
use Rattle.wf_defs.specs.declared.lists.Part.{Part}
use Rattle.wf_defs.specs.declared.lists.Part.TheVariants.{Whole, Case, Default, Branch, Body}
use Rattle.wf_defs.specs.Nodes.{Listed, listed, field_place, item_place}

-- the place of a part of what stands at a place
abbrev pub place_of : List ℕ → Part → List ℕ
place_of base Whole = base
place_of base (Case key) = field_place (field_place base (codes "decisionCases")) key.now
place_of base Default = field_place base (codes "defaultCase")
place_of base (Branch n) = item_place (field_place base (codes "forkTasks")) n
place_of base Body = field_place base (codes "loopOver")

-- the list that it stands for
abbrev pub listed_as : NodeList → Listed
listed_as l = listed l.looped (place_of l.base.now l.part) l.items.now
