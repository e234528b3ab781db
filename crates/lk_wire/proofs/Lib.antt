mod OffsetLaws
