pub mod RankLaws
