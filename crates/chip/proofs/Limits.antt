-- What the limits of a chip's numbers say, fact by fact.
use Rattle.std.proofs.Common.{◌≡◌, ◌≤◌, true, leb}
use Rattle.std.proofs.lemmas.Bool.{and_parts, leb-true}
use Rattle.geometry.specs.Plans.{blocks_of}
use Rattle.geometry.specs.Sets.{is_within}
use Rattle.flash.specs.Limits.{program_fits, erase_fits, suspend_fits, longest_program, longest_erase, longest_suspension}
use Rattle.chip.specs.declared.setup.Setup.{Setup}
use Rattle.chip.specs.Setups.{in_limits}

pub record Limits (s : Setup) : Type 0 where
  pub program_low : 1 ≤ s.program
  pub program_high : s.program ≤ longest_program
  pub erase_low : 1 ≤ s.erase
  pub erase_high : s.erase ≤ longest_erase
  pub suspend_low : 1 ≤ s.suspend
  pub suspend_high : s.suspend ≤ longest_suspension
  pub protected_within : is_within s.protected (blocks_of s.kind) ≡ true
  pub worn_within : is_within s.worn (blocks_of s.kind) ≡ true

pub limits : (s : Setup) → in_limits s ≡ true → Limits s
limits s t =
    let e = and_parts _ (is_within s.worn (blocks_of s.kind)) t in
    let d = and_parts _ (is_within s.protected (blocks_of s.kind)) e.0 in
    let c = and_parts _ (suspend_fits s.suspend) d.0 in
    let b = and_parts (program_fits s.program) (erase_fits s.erase) c.0 in
    let program = and_parts (leb 1 s.program) (leb s.program longest_program) b.0 in
    let erase = and_parts (leb 1 s.erase) (leb s.erase longest_erase) b.1 in
    let suspend = and_parts (leb 1 s.suspend) (leb s.suspend longest_suspension) c.1 in
    record {
      program_low = leb-true _ _ program.0;
      program_high = leb-true _ _ program.1;
      erase_low = leb-true _ _ erase.0;
      erase_high = leb-true _ _ erase.1;
      suspend_low = leb-true _ _ suspend.0;
      suspend_high = leb-true _ _ suspend.1;
      protected_within = d.1;
      worn_within = e.1;
    }
