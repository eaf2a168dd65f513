-- Erasing blocks.
use Rattle.std.specs.Prelude.{ℕ, ◌*◌, Bool, if◌then◌else◌, List, ◌==◌}
use Rattle.geometry.specs.declared.set.BlockSet.{BlockSet}
use Rattle.geometry.specs.Blocks.{filled}
use Rattle.geometry.specs.Sets.{count_of, without, meets}
use Rattle.flash.specs.Limits.{longest_erase, protected_erase}
use Rattle.flash.specs.BlockMaps.{BlockMap}

-- the selected blocks that an erase works on: those that are not protected
abbrev pub erasable : BlockMap → BlockSet → BlockSet
erasable g selected = without selected g.protected

-- one of the blocks that an erase works on is worn, and so the erase fails
abbrev pub spoils : BlockMap → BlockSet → Bool
spoils g selected = meets (erasable g selected) g.worn

-- how long the erasing lasts, by the number of blocks that it works on, where a block takes `each`
abbrev pub erase_time : BlockMap → ℕ → BlockSet → ℕ
erase_time g each selected =
    if count_of (erasable g selected) == 0 then protected_erase
    else count_of (erasable g selected) * (if spoils g selected then longest_erase else each)

-- the cells after an erase: the blocks are FFh throughout; no cell has changed where the erase fails
abbrev pub after_erase : BlockMap → BlockSet → List ℕ → List ℕ
after_erase g selected cells = if spoils g selected then cells else filled g.sizes (erasable g selected) 0xFF cells

-- the cells after a reset that breaks an erasing off: the blocks that are neither protected nor worn are 00h throughout
abbrev pub after_broken_erase : BlockMap → BlockSet → List ℕ → List ℕ
after_broken_erase g selected cells = filled g.sizes (without (erasable g selected) g.worn) 0x00 cells
