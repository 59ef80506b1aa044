use Rattle.uimg_dts.proofs.table.Table.+delete_levels.Given as goal

abbrev pub decreases-delete_levels : goal.decreases-delete_levels
decreases-delete_levels g l = l.levels
